-- What goes out of a bay in memory and what comes back.
use Rattle.std.proofs.Common.{◌≡◌, ℕ, ◌+◌, ◌<◌, Bool, true, false, cond, List, [], ◌∷◌, ◌++◌, length, take, get_or, map, flat_map, Option, None, Some, option_map, is_some, refl, sym, ap, subst, ◌∙◌, arith}
use Rattle.std.specs.Str.{bytes_eq}
use Rattle.std.specs.Prelude.{string_bytes, filter, not}
use Rattle.std.proofs.lemmas.Slice.Eq.{bytes_eq-Decides}
use Rattle.std.proofs.lemmas.List.{map-append, take_more}
use Rattle.wol_bay.specs.Bay.{Name, Image, at_name, without, stored, each_place, sent_out, came_back, removed, with_image}
use Rattle.wol_bay.specs.Parts.{joined, blocks_of}
use Rattle.wol_disk.specs.Memory.{mem_state, mem_values}
use Rattle.wol_disk.specs.Stop.{inner_of, stop_state}
use Rattle.wol_bay.specs.Names.{by_name}
use Rattle.wol_bay.specs.Plans.{Planned, planned_of, is_for, calls_for, plans_without}
use Rattle.wol_bay.specs.Stored.{stored_blocks}
use Rattle.wol_bay.specs.MemBay.{told_of, named_image, named_sizes, named_places, AreArmed}
use Rattle.wol_bay.specs.declared.held.Image as held
use Rattle.wol_bay.specs.declared.held.Leave.{Leave}
use Rattle.wol_bay.specs.declared.held.Faulty.{Faulty}
use Rattle.wol_bay.specs.declared.plans.Plan.{Plan}
use Rattle.wol_disk.specs.declared.stop.StopDisk.{StopDisk}
use Rattle.wol_disk.specs.declared.stop.Fuse.{Fuse}
use Rattle.wol_disk.specs.declared.memory.MemDisk.{MemDisk}

module _ {T A : Type 0} (name_of : T → Name) (of : T → A) (name : Name) where
  abbrev pub named : T → Name × A
  named e = (name_of e, of e)

  named_again : (es : List T) → map (λ (e : Name × T). (e.0, of e.1)) (by_name name_of es) ≡ map named es
  named_again [] = refl
  named_again (e ∷ es) = ap (λ l. named e ∷ l) (named_again es)

  -- entries seen by what they hold, without those of a name
  without_named : (es : List T) → without name (map named es) ≡ map (λ (e : Name × T). (e.0, of e.1)) (without name (by_name name_of es))
  without_named [] = refl
  without_named (e ∷ es) = go (bytes_eq (name_of e) name) (without_named es)
    where
      rest : List (Name × A)
      rest = without name (map named es)

      others : List (Name × T)
      others = without name (by_name name_of es)

      go : (b : Bool) → rest ≡ map (λ (e : Name × T). (e.0, of e.1)) others → cond b (map named es) (named e ∷ rest) ≡ map (λ (e : Name × T). (e.0, of e.1)) (cond b (by_name name_of es) ((name_of e, e) ∷ others))
      go true _ = sym (named_again es)
      go false more = ap (λ l. named e ∷ l) more

  -- what holds of the entries holds of what they hold
  pub kept_by : (es es' : List T) → by_name name_of es' ≡ without name (by_name name_of es) → map named es' ≡ without name (map named es)
  kept_by es es' e = sym (named_again es') ∙ ap (λ l. map (λ (e : Name × T). (e.0, of e.1)) l) e ∙ sym (without_named es)

  -- what stands under a name, seen by what it holds
  pub at_named : (es : List T) → at_name name (map named es) ≡ option_map of (at_name name (by_name name_of es))
  at_named [] = refl
  at_named (e ∷ es) = go (bytes_eq (name_of e) name) (at_named es)
    where
      go : (b : Bool) → at_name name (map named es) ≡ option_map of (at_name name (by_name name_of es)) → cond b (Some (of e)) (at_name name (map named es)) ≡ option_map of (cond b (Some e) (at_name name (by_name name_of es)))
      go true more = refl
      go false more = more

  -- the entry of a name, and what is known of it
  pub found_of : (es : List T) (e : T) (a : A) → Some e ≡ at_name name (by_name name_of es) → at_name name (map named es) ≡ Some a → of e ≡ a
  found_of es e a is at = let s : Some (of e) ≡ Some a = ap (option_map of) is ∙ sym (at_named es) ∙ at in cc

  pub not_missing : (es : List T) (a : A) → None ≡ at_name name (by_name name_of es) → at_name name (map named es) ≡ Some a → ⊥
  not_missing es a is at = let s : None ≡ Some a = ap (option_map of) is ∙ sym (at_named es) ∙ at in let f : false ≡ true = ap is_some s in cc

  -- an entry that is found by a name has it
  pub has_name : (es : List T) (e : T) → Some e ≡ at_name name (by_name name_of es) → name_of e ≡ name
  has_name [] e is = let f : true ≡ false = ap is_some is in absurd cc
  has_name (x ∷ es) e is = go (bytes_eq (name_of x) name) refl is (has_name es e)
    where
      go : (b : Bool) → bytes_eq (name_of x) name ≡ b → Some e ≡ cond b (Some x) (at_name name (by_name name_of es)) → (Some e ≡ at_name name (by_name name_of es) → name_of e ≡ name) → name_of e ≡ name
      go true t is rest = let s : e ≡ x = cc in ap name_of s ∙ (bytes_eq-Decides (name_of x) name).0 t
      go false f is rest = rest is

-- the calls that one plan more makes fail
pub calls_push : (name : Name) (place : ℕ) (ps : List Planned) (p : Planned) → calls_for name place (ps ++ p ∷ []) ≡ calls_for name place ps ++ cond (is_for name place p) (p.call ∷ []) []
calls_push name place [] p = refl
calls_push name place (q ∷ ps) p = go (is_for name place q) (calls_push name place ps p)
  where
    go : (b : Bool) → calls_for name place (ps ++ p ∷ []) ≡ calls_for name place ps ++ cond (is_for name place p) (p.call ∷ []) []
        → cond b (q.call ∷ calls_for name place (ps ++ p ∷ [])) (calls_for name place (ps ++ p ∷ [])) ≡ cond b (q.call ∷ calls_for name place ps) (calls_for name place ps) ++ cond (is_for name place p) (p.call ∷ []) []
    go true more = ap (λ l. q.call ∷ l) more
    go false more = more

-- the same at the plans of a bay
pub calls_step : (name : Name) (place : ℕ) (plans : List Plan) (k : ℕ) (p : Plan) → k < length plans → p ≡ get_or plans k p
    → calls_for name place (map planned_of (take (k + 1) plans)) ≡ calls_for name place (map planned_of (take k plans)) ++ cond (is_for name place (planned_of p)) (p.call ∷ []) []
calls_step name place plans k p lt is =
    ap (λ (l : List Plan). calls_for name place (map planned_of l)) (take_more plans k p lt ∙ ap (λ (x : Plan). take k plans ++ x ∷ []) (sym is))
    ∙ ap (calls_for name place) (map-append planned_of (take k plans) (p ∷ []))
    ∙ calls_push name place (map planned_of (take k plans)) (planned_of p)

-- an image goes out of what the bay keeps
pub sent : (name : Name) (sizes : List ℕ) (images images' : List held.Image) (out out' : List Leave) (faulty faulty' : List Faulty) (leave : Leave)
    → by_name (λ image. string_bytes image.name) images' ≡ without name (by_name (λ image. string_bytes image.name) images) → out' ≡ out ++ leave ∷ [] → string_bytes leave.name ≡ name → leave.sizes.items ≡ sizes → faulty' ≡ faulty
    → told_of images' out' faulty' ≡ sent_out name sizes (told_of images out faulty)
sent name sizes images images' out out' faulty faulty' leave gone more named sized same =
    let gone' : map named_image images' ≡ without name (map named_image images) = kept_by (λ image. string_bytes image.name) (λ image. (named_image image).1) name images images' gone in
    let more' : map named_sizes out' ≡ map named_sizes out ++ (name, sizes) ∷ [] =
    ap (λ (l : List Leave). map named_sizes l) more ∙ map-append named_sizes out (leave ∷ []) ∙ ap (λ (n : Name). map named_sizes out ++ (n, leave.sizes.items) ∷ []) named ∙ ap (λ (n : List ℕ). map named_sizes out ++ (name, n) ∷ []) sized in
    λ i. record { images = gone' i; out = more' i; faulty = flat_map named_places (same i) }

-- an image is gone for good
pub lost : (name : Name) (images images' : List held.Image) (out : List Leave) (faulty : List Faulty) → by_name (λ image. string_bytes image.name) images' ≡ without name (by_name (λ image. string_bytes image.name) images)
    → told_of images' out faulty ≡ removed name (told_of images out faulty)
lost name images images' out faulty gone =
    let gone' : map named_image images' ≡ without name (map named_image images) = kept_by (λ image. string_bytes image.name) (λ image. (named_image image).1) name images images' gone in
    λ i. record { images = gone' i; out = map named_sizes out; faulty = flat_map named_places faulty }

-- an image stands in the place of another
pub replaced : (name : Name) (i : Image) (images images' images'' : List held.Image) (out : List Leave) (faulty : List Faulty) (image : held.Image) → by_name (λ image. string_bytes image.name) images' ≡ without name (by_name (λ image. string_bytes image.name) images)
    → images'' ≡ images' ++ image ∷ [] → named_image image ≡ (name, i) → told_of images'' out faulty ≡ with_image name i (told_of images out faulty)
replaced name i images images' images'' out faulty image gone more is =
    let rest : map named_image images' ≡ without name (map named_image images) = kept_by (λ image. string_bytes image.name) (λ image. (named_image image).1) name images images' gone in
    let all : map named_image images'' ≡ without name (map named_image images) ++ (name, i) ∷ [] =
    ap (λ (l : List held.Image). map named_image l) more ∙ map-append named_image images' (image ∷ []) ∙ ap (λ l. l ++ named_image image ∷ []) rest ∙ ap (λ (e : Name × Image). without name (map named_image images) ++ e ∷ []) is in
    λ j. record { images = all j; out = map named_sizes out; faulty = flat_map named_places faulty }

-- the plans that are kept, as callers see them
pub planned_filter : (name : Name) (plans : List Plan) → map planned_of (filter (λ p. not (bytes_eq (string_bytes p.name) name)) plans) ≡ plans_without name (map planned_of plans)
planned_filter name [] = refl
planned_filter name (p ∷ plans) = go (not (bytes_eq (string_bytes p.name) name)) (planned_filter name plans)
  where
    kept : List Plan
    kept = filter (λ p. not (bytes_eq (string_bytes p.name) name)) plans

    go : (b : Bool) → map planned_of kept ≡ plans_without name (map planned_of plans) → map planned_of (cond b (p ∷ kept) kept) ≡ cond b (planned_of p ∷ plans_without name (map planned_of plans)) (plans_without name (map planned_of plans))
    go true more = ap (λ l. planned_of p ∷ l) more
    go false more = more

-- parts in memory tell their blocks
pub blocks_told : (parts : List (StopDisk MemDisk)) → blocks_of (λ part. stop_state mem_state part) parts ≡ Some (stored_blocks parts)
blocks_told [] = refl
blocks_told (part ∷ parts) = ap (joined (Some (mem_values (inner_of part)))) (blocks_told parts)

-- an image comes back to what the bay keeps
pub came : (name : Name) (places : List ℕ) (parts : List (StopDisk MemDisk)) (images images' images'' : List held.Image) (out out' : List Leave) (faulty faulty' : List Faulty) (image : held.Image) (note : Faulty)
    → by_name (λ leave. string_bytes leave.name) out' ≡ without name (by_name (λ leave. string_bytes leave.name) out)
    → by_name (λ image. string_bytes image.name) images' ≡ without name (by_name (λ image. string_bytes image.name) images) → images'' ≡ images' ++ image ∷ []
    → named_image image ≡ (name, record { blocks = stored_blocks parts; rest = [] })
    → flat_map named_places faulty' ≡ flat_map named_places faulty ++ named_places note → named_places note ≡ each_place name places
    → told_of images'' out' faulty' ≡ came_back name (blocks_of (λ part. stop_state mem_state part) parts) places (told_of images out faulty)
came name places parts images images' images'' out out' faulty faulty' image note back gone more is noted places_are =
    let rest : map named_image images' ≡ without name (map named_image images) = kept_by (λ image. string_bytes image.name) (λ image. (named_image image).1) name images images' gone in
    let stored' : map named_image images'' ≡ stored name (blocks_of (λ part. stop_state mem_state part) parts) (map named_image images) =
    ap (λ (l : List held.Image). map named_image l) more ∙ map-append named_image images' (image ∷ []) ∙ ap (λ l. l ++ named_image image ∷ []) rest
    ∙ ap (λ (e : Name × Image). without name (map named_image images) ++ e ∷ []) is ∙ sym (ap (λ b. stored name b (map named_image images)) (blocks_told parts)) in
    let out'' : map named_sizes out' ≡ without name (map named_sizes out) = kept_by (λ leave. string_bytes leave.name) (λ leave. (named_sizes leave).1) name out out' back in
    let faulty'' : flat_map named_places faulty' ≡ flat_map named_places faulty ++ each_place name places = noted ∙ ap (λ l. flat_map named_places faulty ++ l) places_are in
    λ i. record { images = stored' i; out = out'' i; faulty = faulty'' i }

-- one armed part more
pub armed_push : (name : Name) (k n : ℕ) (plans : List Planned) (fuse : Option Fuse) (parts : List (StopDisk MemDisk)) (part : StopDisk MemDisk) → n ≡ k + length parts → AreArmed name k plans fuse parts → AreArmed name n plans fuse (part ∷ []) → AreArmed name k plans fuse (parts ++ part ∷ [])
armed_push name k n plans fuse [] part e all one = let z : n ≡ k = omega arith in subst (λ (m : ℕ). AreArmed name m plans fuse (part ∷ [])) z one
armed_push name k n plans fuse (p ∷ parts) part e all one = (all.0, armed_push name (k + 1) n plans fuse parts part (omega arith) all.1 one)
