-- Images go back to their bay, the last first.
use Rattle.rack_parts.proofs.Basics.{◌≡◌, ◌≢◌, ◌<◌, ℕ, zero, suc, Bool, true, false, cond, List, [], ◌∷◌, ◌++◌, length, take, Option, Some, None, is_some, refl, ap, subst, arith}
use Rattle.rack_parts.proofs.Basics.{append_assoc, ◌≤◌, ◌⊎◌, inl, inr, get_or, sym, ◌∙◌, ◌+◌, ◌-◌, ◌*◌, drop, replicate, map, option_map, slice_get, Contains, slice_range, IfSome}
use Rattle.rack_parts.proofs.Basics.{All, cases_eq, cases_lt, append-nil, length-map, get_or-map, drop-drop, length-append, length-drop, take_all, Contains-append_left}
use Rattle.rack_parts.proofs.Basics.{Contains-append_right, All-contains, none-some, same_Some, slice_get-get_or, slice_get_within, get_or_from_slice_get, get_or_past, length-take}
use Rattle.rack_parts.proofs.Basics.{⊎_elim}
use Rattle.rack_parts.proofs.Terms.{Name, at_name, without, AreNamedApart, Image, Told, stored, each_place, came_back, BayState, outs, IsOut, Config, VolumeConf, shape_in}
use Rattle.rack_parts.proofs.Terms.{out_names, image_here, segment_here, IsPart, IsImageRest, IsImageOut, ImageRest, Block, Values, State, IsDisk, TellsContent, IsImage, IsImageOf}
use Rattle.rack_parts.proofs.Terms.{Rose, blocks_of, faulty_places, joined, sizes_of, IsTogether, IsStoredAs, GivesBack, IsImageBack, HasFaultHere, Shape, Spun}
use Rattle.std.specs.Str.{bytes_eq}
use Rattle.std.proofs.lemmas.Slice.Eq.{bytes_eq-Decides}
use Rattle.std.proofs.Math.Nat.{suc-mul, add-mul}
use Rattle.wol_bay.specs.Bay.{AreApart}
use Rattle.wol_bay.proofs.NameLists.{out_again, is_out}
use Rattle.wol_bay.proofs.NamedApart.{other_put, other_gone}
use Rattle.wol_model.specs.Images.{image_size, segment_of}
use Rattle.wol_config.specs.Configs.{IsValid}
use Rattle.spin_model.specs.Spun.{state_of, disk_of}
use Rattle.volume_images.specs.Formatted.{part_sizes}
use Rattle.volume_images.specs.Left.{IsTold}
use Rattle.volume_images.proofs.Refused.{rose_since}
use Rattle.rack_parts.specs.Closing.{LeavesNoneOut, without_all}
use Rattle.rack_parts.proofs.Members.{first_in, later_in}

-- ---- The names of images that are out, as the last ones go back

at_append : {A : Type 0} (name : Name) (xs ys : List (Name × A)) → at_name name xs ≡ None → at_name name ys ≡ None → at_name name (xs ++ ys) ≡ None
at_append name [] ys e f = f
at_append {A} name (x ∷ xs) ys e f = go (bytes_eq x.0 name) e (λ rest. at_append name xs ys rest f)
  where
    go : (b : Bool) → cond b (Some x.1) (at_name name xs) ≡ None → (at_name name xs ≡ None → at_name name (xs ++ ys) ≡ None) → cond b (Some x.1) (at_name name (xs ++ ys)) ≡ None
    go true e later = let differs : true ≡ false = ap is_some e in cc
    go false e later = later e

pub none_names : (D : Type 0) (config : Config) (vs : List VolumeConf) → out_names {D = D} config vs [] ≡ []
none_names D config [] = refl
none_names D config (v ∷ vs) = refl

module _ {D : Type 0} (config : Config) where
  -- one image more that is out
  pub out_more : (vs : List VolumeConf) (images : List (Option (ImageRest D))) (n : ℕ) (v : VolumeConf) (r : ImageRest D) → slice_get vs n ≡ Some v → slice_get images n ≡ Some (Some r)
      → out_names config vs (take (suc n) images) ≡ out_names config vs (take n images) ++ (v.name, part_sizes (shape_in config v)) ∷ []
  out_more [] images n v r there is = absurd (cc there)
  out_more (w ∷ vs) [] n v r there is = absurd (cc is)
  out_more (w ∷ vs) (Some i ∷ images) zero v r there is =
      let same : w ≡ v = cc in
      subst (λ (u : VolumeConf). (w.name, part_sizes (shape_in config w)) ∷ out_names config vs (take zero images) ≡ (u.name, part_sizes (shape_in config u)) ∷ []) same
      (ap (λ l. (w.name, part_sizes (shape_in config w)) ∷ l) (none_names D config vs))
  out_more (w ∷ vs) (None ∷ images) zero v r there is = absurd (cc is)
  out_more (w ∷ vs) (Some i ∷ images) (suc n) v r there is = ap (λ l. (w.name, part_sizes (shape_in config w)) ∷ l) (out_more vs images n v r there is)
  out_more (w ∷ vs) (None ∷ images) (suc n) v r there is = out_more vs images n v r there is

  -- one more that isn't
  pub home_more : (vs : List VolumeConf) (images : List (Option (ImageRest D))) (n : ℕ) → slice_get images n ≡ Some None → out_names config vs (take (suc n) images) ≡ out_names config vs (take n images)
  home_more [] images n is = refl
  home_more (w ∷ vs) [] zero is = refl
  home_more (w ∷ vs) [] (suc n) is = refl
  home_more (w ∷ vs) (Some i ∷ images) zero is = absurd (cc is)
  home_more (w ∷ vs) (None ∷ images) zero is = none_names D config vs
  home_more (w ∷ vs) (Some i ∷ images) (suc n) is = ap (λ l. (w.name, part_sizes (shape_in config w)) ∷ l) (home_more vs images n is)
  home_more (w ∷ vs) (None ∷ images) (suc n) is = home_more vs images n is

  -- a name that none of the first volumes has isn't among theirs
  pub not_named : (vs : List VolumeConf) (images : List (Option (ImageRest D))) (name : Name) → ((k : ℕ) (w : VolumeConf) → k < length images → slice_get vs k ≡ Some w → w.name ≢ name)
      → at_name name (out_names config vs images) ≡ None
  not_named [] images name apart = refl
  not_named (w ∷ vs) [] name apart = refl
  not_named (w ∷ vs) (None ∷ images) name apart = not_named vs images name (λ k u within is. apart (suc k) u (omega (arith, within)) is)
  not_named (w ∷ vs) (Some i ∷ images) name apart =
      let rest = not_named vs images name (λ k u within is. apart (suc k) u (omega (arith, within)) is) in
      go (bytes_eq w.name name) refl rest
    where
      go : (b : Bool) → bytes_eq w.name name ≡ b → at_name name (out_names config vs images) ≡ None → cond b (Some (part_sizes (shape_in config w))) (at_name name (out_names config vs images)) ≡ None
      go true e rest = absurd (apart 0 w (omega arith) refl ((bytes_eq-Decides w.name name).0 e))
      go false e rest = rest

-- ---- The names of the images behind one

module _ {D : Type 0} (config : Config) where
  -- behind all of them there is none
  behind_all : (vs : List VolumeConf) (images : List (Option (ImageRest D))) → out_names config (drop (length images) vs) (drop (length images) images) ≡ []
  behind_all vs [] = none_names D config vs
  behind_all [] (i ∷ images) = refl
  behind_all (w ∷ vs) (i ∷ images) = behind_all vs images

  -- one that isn't out adds none
  behind_home : (vs : List VolumeConf) (images : List (Option (ImageRest D))) (n : ℕ) → slice_get images n ≡ Some None
      → out_names config (drop n vs) (drop n images) ≡ out_names config (drop (suc n) vs) (drop (suc n) images)
  behind_home [] images zero is = refl
  behind_home [] images (suc n) is = refl
  behind_home (w ∷ vs) [] n is = absurd (cc is)
  behind_home (w ∷ vs) (Some i ∷ images) zero is = absurd (cc is)
  behind_home (w ∷ vs) (None ∷ images) zero is = refl
  behind_home (w ∷ vs) (i ∷ images) (suc n) is = behind_home vs images n is

  -- one that is out adds its own
  behind_out : (vs : List VolumeConf) (images : List (Option (ImageRest D))) (n : ℕ) (v : VolumeConf) (r : ImageRest D) → slice_get vs n ≡ Some v → slice_get images n ≡ Some (Some r)
      → out_names config (drop n vs) (drop n images) ≡ (v.name, part_sizes (shape_in config v)) ∷ out_names config (drop (suc n) vs) (drop (suc n) images)
  behind_out [] images n v r there is = absurd (cc there)
  behind_out (w ∷ vs) [] n v r there is = absurd (cc is)
  behind_out (w ∷ vs) (Some i ∷ images) zero v r there is =
      let same : w ≡ v = cc in
      ap (λ (u : VolumeConf). (u.name, part_sizes (shape_in config u)) ∷ out_names config vs images) same
  behind_out (w ∷ vs) (None ∷ images) zero v r there is = absurd (cc is)
  behind_out (w ∷ vs) (i ∷ images) (suc n) v r there is = behind_out vs images n v r there is

-- the last one that is out goes back
pub last_gone : (config : Config) (before names : List (Name × List ℕ)) (v : VolumeConf) → at_name v.name before ≡ None → at_name v.name names ≡ None
    → without v.name (before ++ (names ++ (v.name, part_sizes (shape_in config v)) ∷ [])) ≡ before ++ names
last_gone config before names v e f =
    let es : List (Name × List ℕ) = before ++ names in
    subst (λ (l : List (Name × List ℕ)). without v.name l ≡ es) (append_assoc before names ((v.name, part_sizes (shape_in config v)) ∷ []))
    (out_again v.name es (part_sizes (shape_in config v)) (at_append v.name before names e f))

-- ---- An image more goes back to its bay

-- a place is among the named ones
named : (name : Name) (places : List ℕ) (place : ℕ) → Contains places place → Contains (each_place name places) (name, place)
named name places place has = (has.0, within, at)
  where
    within : has.0 < length (each_place name places)
    within = rw (length-map) has.1

    at : get_or (each_place name places) has.0 (name, place) ≡ (name, place)
    at = get_or-map (λ (p : ℕ). (name, p)) places has.0 place (name, place) has.1 ∙ ap (λ (p : ℕ). (name, p)) has.2

module _ (name : Name) (images : List (Name × Image)) where
  pub stored_here : AreApart images → (vs : List (Values Block)) → at_name name (stored name (Some vs) images) ≡ Some (record { blocks = vs; rest = [] })
  stored_here apart vs = is_out name (without name images) (record { blocks = vs; rest = [] }) (apart name)

  pub stored_others : (blocks : Option (List (Values Block))) (other : Name) → other ≢ name → at_name other (stored name blocks images) ≡ at_name other images
  stored_others None other differs = other_gone name other differs images
  stored_others (Some vs) other differs = other_put name other differs (without name images) (record { blocks = vs; rest = [] }) ∙ other_gone name other differs images

module _ {D : Type 0} (state : D → State) (config : Config) (images : List (Option (ImageRest D))) where
  -- nothing is back yet
  pub none_back : (t : Told) → ((k : ℕ) → length images ≤ k → image_here images k ≡ None) → GivesBack state config images (length images) t t
  none_back t none = record {
    more = [];
    faulty = sym (append-nil t.faulty);
    back = λ k v r from at here. absurd (none-some r (sym (none k from) ∙ here));
    others = λ name away. refl;
  }

  -- one that isn't out is passed over
  pub home_passed : (n : ℕ) (old new : Told) → image_here images n ≡ None → GivesBack state config images (suc n) old new → GivesBack state config images n old new
  home_passed n old new home given = record {
    more = given.more;
    faulty = given.faulty;
    back = λ k v r from at here. given.back k v r (not_here k r from here) at here;
    others = λ name away. given.others name (λ k v from at out. away k v (omega (arith, from)) at out);
  }
    where
      not_here : (k : ℕ) (r : ImageRest D) → n ≤ k → image_here images k ≡ Some r → suc n ≤ k
      not_here k r from here = ⊎_elim
          (λ lt. omega (arith, lt))
          (λ le. let same : n ≡ k = omega (arith, from, le) in absurd (none-some r (sym home ∙ ap (image_here images) same ∙ here)))
          (cases_lt n k)

  -- one that is out came back
  pub one_back : (n : ℕ) (v : VolumeConf) (r : ImageRest D) (disks : List D) (old new : Told) → slice_get config.volumes.items n ≡ Some v → image_here images n ≡ Some r → IsTogether r disks
      → ((k : ℕ) (w : VolumeConf) → k ≢ n → slice_get config.volumes.items k ≡ Some w → w.name ≢ v.name)
      → AreNamedApart new → GivesBack state config images (suc n) old new → GivesBack state config images n old (came_back v.name (blocks_of state disks) (faulty_places state disks) new)
  one_back n v r disks old new at here together names apart given = record {
    more = given.more ++ each_place v.name (faulty_places state disks);
    faulty = ap (λ (l : List (Name × ℕ)). l ++ each_place v.name (faulty_places state disks)) given.faulty ∙ append_assoc old.faulty given.more (each_place v.name (faulty_places state disks));
    back = back;
    others = λ name away. stored_others v.name new.images (blocks_of state disks) name (away n v (omega arith) at (ap is_some here)) ∙ given.others name (λ k w from is out. away k w (omega (arith, from)) is out);
  }
    where
      this : (w : VolumeConf) (q : ImageRest D) → w ≡ v → q ≡ r → IsStoredAs state w.name q (given.more ++ each_place v.name (faulty_places state disks)) (came_back v.name (blocks_of state disks) (faulty_places state disks) new)
      this w q same_conf same =
          rw (same_conf, same) (record {
            disks = disks;
            together = together;
            stored = λ vs is. rw is (stored_here v.name new.images apart vs);
            faulty = λ place has. Contains-append_right given.more (each_place v.name (faulty_places state disks)) (v.name, place) (named v.name (faulty_places state disks) place has);
          })

      earlier : (k : ℕ) (w : VolumeConf) (q : ImageRest D) → k ≢ n → slice_get config.volumes.items k ≡ Some w → IsStoredAs state w.name q given.more new → IsStoredAs state w.name q (given.more ++ each_place v.name (faulty_places state disks)) (came_back v.name (blocks_of state disks) (faulty_places state disks) new)
      earlier k w q differs is s = record {
        disks = s.disks;
        together = s.together;
        stored = λ vs e. stored_others v.name new.images (blocks_of state disks) w.name (names k w differs is) ∙ s.stored vs e;
        faulty = λ place has. Contains-append_left given.more (each_place v.name (faulty_places state disks)) (w.name, place) (s.faulty place has);
      }

      back : (k : ℕ) (w : VolumeConf) (q : ImageRest D) → n ≤ k → slice_get config.volumes.items k ≡ Some w → image_here images k ≡ Some q → IsStoredAs state w.name q (given.more ++ each_place v.name (faulty_places state disks)) (came_back v.name (blocks_of state disks) (faulty_places state disks) new)
      back k w q from is out = ⊎_elim
          (λ same. this w q (same_Some w v (sym is ∙ ap (slice_get config.volumes.items) same ∙ at)) (same_Some q r (sym out ∙ ap (image_here images) same ∙ here)))
          (λ differs. earlier k w q differs is (given.back k w q (omega (arith, from, differs)) is out))
          (cases_eq k n)

-- ---- The parts of an image that is put together

each_some : {X : Type 0} (xs : List X) (i : ℕ) → get_or (map (λ (x : X). Some x) xs) i None ≡ slice_get xs i
each_some [] i = refl
each_some (x ∷ xs) zero = refl
each_some (x ∷ xs) (suc i) = each_some xs i

module _ {D : Type 0} (state : D → State) (k : ℕ) (z : Shape) (r : ImageRest D) (rest : IsImageRest state k z r) (disks : List D) (together : IsTogether r disks) where
  home_sized : (state_of state together.home).size ≡ z.home
  home_sized = (subst (λ (o : Option (Spun D)). IfSome o (IsPart state k z.home)) together.home_is rest.home).sized

  part_at : (i : ℕ) → segment_here r i ≡ slice_get together.segments i
  part_at i = ap (λ (l : List (Option (Spun D))). get_or l i None) together.segments_are ∙ each_some together.segments i

  part_count : length together.segments ≡ z.segments
  part_count = sym (length-map together.segments (λ (q : Spun D). Some q)) ∙ sym (ap length together.segments_are) ∙ rest.count

-- ---- The images that a crash leaves of an image's blocks, by its parts

module _ {B : Type 0} where
  pub image_length : (vs : List (Values B)) (c : List B) → IsImage vs c → length c ≡ length vs
  image_length [] [] i = refl
  image_length [] (x ∷ c) i = absurd i
  image_length (v ∷ vs) [] i = absurd i
  image_length (v ∷ vs) (x ∷ c) i = ap suc (image_length vs c i.1)

  pub image_front : (vs ws : List (Values B)) (c : List B) → IsImage (vs ++ ws) c → IsImage vs (take (length vs) c)
  image_front [] ws c i = tt
  image_front (v ∷ vs) ws [] i = absurd i
  image_front (v ∷ vs) ws (x ∷ c) i = (i.0, image_front vs ws c i.1)

  pub image_back : (vs ws : List (Values B)) (c : List B) → IsImage (vs ++ ws) c → IsImage ws (drop (length vs) c)
  image_back [] ws c i = i
  image_back (v ∷ vs) ws [] i = absurd i
  image_back (v ∷ vs) ws (x ∷ c) i = image_back vs ws c i.1

-- what is told of joined blocks is told of both
pub both_told : (a b : Option (List (Values Block))) (vs : List (Values Block)) → joined a b ≡ Some vs → (x : List (Values Block)) × (y : List (Values Block)) × (a ≡ Some x) × (b ≡ Some y) × (x ++ y ≡ vs)
both_told None b vs is = absurd (none-some vs is)
both_told (Some x) None vs is = absurd (none-some vs is)
both_told (Some x) (Some y) vs is = (x, y, refl, refl, same_Some (x ++ y) vs is)

module _ {D : Type 0} (state : D → State) where
  -- where each part tells its content, all do together
  pub all_told : ((d : D) → TellsContent (state d)) → (ds : List D) → (vs : List (Values Block)) × (blocks_of state ds ≡ Some vs)
  all_told tells [] = ([], refl)
  all_told tells (d ∷ ds) =
      let one = tells d in
      let rest = all_told tells ds in
      (one.0 ++ rest.0, ap (λ (o : Option (List (Values Block))). joined o (blocks_of state ds)) one.1 ∙ ap (joined (Some one.0)) rest.1)

  module _ (sound : (d : D) → IsDisk (state d)) where
    -- the part in front, and those behind it
    pub first_part : (d : D) (ds : List D) (size : ℕ) (vs : List (Values Block)) (c : List Block) → (state d).size ≡ size → blocks_of state (d ∷ ds) ≡ Some vs → IsImage vs c
        → IsImageOf (state d).values (take size c) × ((ws : List (Values Block)) × (blocks_of state ds ≡ Some ws) × IsImage ws (drop size c) × (length c ≡ size + length ws))
    first_part d ds size vs c sized told image =
        let t = both_told (state d).values (blocks_of state ds) vs told in
        let n : length t.0 ≡ size = (sound d).each_block t.0 t.2 ∙ sized in
        let whole : IsImage (t.0 ++ t.1) c = subst (λ (l : List (Values Block)). IsImage l c) (sym t.4) image in
        let front : IsImageOf (state d).values (take (length t.0) c) = subst (λ (o : Option (List (Values Block))). IsImageOf o (take (length t.0) c)) (sym t.2) (image_front t.0 t.1 c whole) in
        let all : length c ≡ length t.0 + length t.1 = image_length (t.0 ++ t.1) c whole ∙ length-append t.0 t.1 in (
          subst (λ (m : ℕ). IsImageOf (state d).values (take m c)) n front,
          (t.1, t.3, subst (λ (m : ℕ). IsImage t.1 (drop m c)) n (image_back t.0 t.1 c whole), omega (arith, all, n)),
        )

    -- each of the parts in a row
    pub in_row : (qs : List (Spun D)) (size : ℕ) (vs : List (Values Block)) (c : List Block) → ((q : Spun D) → Contains qs q → (state_of state q).size ≡ size) → blocks_of state (map (λ (q : Spun D). disk_of q) qs) ≡ Some vs → IsImage vs c
        → (j : ℕ) (p : Spun D) → slice_get qs j ≡ Some p → IsImageOf (state_of state p).values (take size (drop (j * size) c))
    in_row [] size vs c sized told image j p at = absurd (none-some p at)
    in_row (q ∷ qs) size vs c sized told image zero p at =
        let same : q ≡ p = same_Some q p at in
        let none : 0 * size ≡ 0 = omega arith in
        subst (λ (x : Spun D). IsImageOf (state_of state x).values (take size (drop (0 * size) c))) same
        (subst (λ (m : ℕ). IsImageOf (state_of state q).values (take size (drop m c))) (sym none)
        (first_part (disk_of q) (map (λ (q : Spun D). disk_of q) qs) size vs c (sized q (first_in q q qs refl)) told image).0)
    in_row (q ∷ qs) size vs c sized told image (suc j) p at =
        let rest = (first_part (disk_of q) (map (λ (q : Spun D). disk_of q) qs) size vs c (sized q (first_in q q qs refl)) told image).1 in
        let more = suc-mul j size in
        let place : size + j * size ≡ suc j * size = omega (arith, more) in
        subst (λ (l : List Block). IsImageOf (state_of state p).values (take size l)) (drop-drop (j * size) size c ∙ ap (λ (m : ℕ). drop m c) place)
        (in_row qs size rest.0 (drop size c) (λ x has. sized x (later_in q x qs has)) rest.1 rest.2 j p at)

    pub row_length : (qs : List (Spun D)) (size : ℕ) (vs : List (Values Block)) → ((q : Spun D) → Contains qs q → (state_of state q).size ≡ size) → blocks_of state (map (λ (q : Spun D). disk_of q) qs) ≡ Some vs → length vs ≡ length qs * size
    row_length [] size vs sized told = let none : 0 * size ≡ 0 = omega arith in ap length (sym (same_Some [] vs told)) ∙ sym none
    row_length (q ∷ qs) size vs sized told =
        let t = both_told (state (disk_of q)).values (blocks_of state (map (λ (q : Spun D). disk_of q) qs)) vs told in
        let n : length t.0 ≡ size = (sound (disk_of q)).each_block t.0 t.2 ∙ sized q (first_in q q qs refl) in
        let rest = row_length qs size t.1 (λ x has. sized x (later_in q x qs has)) t.3 in
        let all = length-append t.0 t.1 in
        let is = ap length t.4 in
        let more = suc-mul (length qs) size in
        omega (arith, n, rest, all, is, more)

    module _ (k : ℕ) (z : Shape) (r : ImageRest D) (rest : IsImageRest state k z r) (disks : List D) (together : IsTogether r disks) (vs : List (Values Block)) (told : blocks_of state disks ≡ Some vs) (c : List Block) (image : IsImage vs c) where
      all_parts : blocks_of state (disk_of r.label ∷ disk_of together.home ∷ map (λ (q : Spun D). disk_of q) together.segments) ≡ Some vs
      all_parts = subst (λ (ds : List D). blocks_of state ds ≡ Some vs) together.disks_are told

      after_label : IsImageOf (state_of state r.label).values (take 2 c)
          × ((ws : List (Values Block)) × (blocks_of state (disk_of together.home ∷ map (λ (q : Spun D). disk_of q) together.segments) ≡ Some ws) × IsImage ws (drop 2 c) × (length c ≡ 2 + length ws))
      after_label = first_part (disk_of r.label) (disk_of together.home ∷ map (λ (q : Spun D). disk_of q) together.segments) 2 vs c rest.label.sized all_parts image

      after_home : IsImageOf (state_of state together.home).values (take z.home (drop 2 c))
          × ((ws : List (Values Block)) × (blocks_of state (map (λ (q : Spun D). disk_of q) together.segments) ≡ Some ws) × IsImage ws (drop z.home (drop 2 c)) × (length (drop 2 c) ≡ z.home + length ws))
      after_home = first_part (disk_of together.home) (map (λ (q : Spun D). disk_of q) together.segments) z.home after_label.1.0 (drop 2 c) (home_sized state k z r rest disks together) after_label.1.1 after_label.1.2

      each_sized : (q : Spun D) → Contains together.segments q → (state_of state q).size ≡ z.segment_blocks
      each_sized q has =
          (rest.segments has.0 q (part_at state k z r rest disks together has.0 ∙ slice_get-get_or together.segments has.0 q has.1 ∙ ap (λ (x : Spun D). Some x) has.2)).sized

      pub left_size : length c ≡ image_size z
      left_size =
          let row = row_length together.segments z.segment_blocks after_home.1.0 each_sized after_home.1.1 in
          let behind = length-drop 2 c in
          let one = after_label.1.3 in
          let two = after_home.1.3 in
          let product : length together.segments * z.segment_blocks ≡ z.segments * z.segment_blocks = ap (λ (n : ℕ). n * z.segment_blocks) (part_count state k z r rest disks together) in
          omega (arith, row, behind, one, two, product)

      pub left_label : IsImageOf (state_of state r.label).values (slice_range c 0 2)
      left_label = after_label.0

      pub left_home : (p : Spun D) → r.home ≡ Some p → IsImageOf (state_of state p).values (slice_range c 2 (2 + z.home))
      left_home p is =
          let size : z.home ≡ 2 + z.home - 2 = omega arith in
          subst (λ (x : Spun D). IsImageOf (state_of state x).values (slice_range c 2 (2 + z.home))) (same_Some together.home p (sym together.home_is ∙ is))
          (subst (λ (n : ℕ). IsImageOf (state_of state together.home).values (take n (drop 2 c))) size after_home.0)

      pub left_segment : (i : ℕ) (p : Spun D) → segment_here r i ≡ Some p → IsImageOf (state_of state p).values (segment_of z c i)
      left_segment i p is =
          let one = in_row together.segments z.segment_blocks after_home.1.0 (drop z.home (drop 2 c)) each_sized after_home.1.1 after_home.1.2 i p (sym (part_at state k z r rest disks together i) ∙ is) in
          let more = add-mul i 1 z.segment_blocks in
          let once : 1 * z.segment_blocks ≡ z.segment_blocks = omega arith in
          let size : z.segment_blocks ≡ 2 + z.home + (i + 1) * z.segment_blocks - (2 + z.home + i * z.segment_blocks) = omega (arith, more, once) in
          let at : 2 + (z.home + i * z.segment_blocks) ≡ 2 + z.home + i * z.segment_blocks = omega arith in
          let dropped : drop (i * z.segment_blocks) (drop z.home (drop 2 c)) ≡ drop (2 + z.home + i * z.segment_blocks) c =
          drop-drop (i * z.segment_blocks) z.home (drop 2 c) ∙ drop-drop (z.home + i * z.segment_blocks) 2 c ∙ ap (λ (m : ℕ). drop m c) at in
          subst (λ (n : ℕ). IsImageOf (state_of state p).values (take n (drop (2 + z.home + i * z.segment_blocks) c))) size
          (subst (λ (l : List Block). IsImageOf (state_of state p).values (take z.segment_blocks l)) dropped one)

-- the parts of an image together have the sizes of its volume's
pub sizes_together : {D : Type 0} (state : D → State) (k : ℕ) (z : Shape) (r : ImageRest D) (disks : List D) → IsImageRest state k z r → IsTogether r disks → sizes_of state disks ≡ part_sizes z
sizes_together {D} state k z r disks rest together =
    ap (sizes_of state) together.disks_are
    ∙ (λ i. rest.label.sized i ∷ home_sized state k z r rest disks together i ∷ map (λ (d : D). (state d).size) (map (λ (p : Spun D). disk_of p) together.segments))
    ∙ ap (λ (l : List ℕ). 2 ∷ z.home ∷ l) (all_same together.segments z.segments (λ n q at. (rest.segments n q (part_at state k z r rest disks together n ∙ at)).sized) (part_count state k z r rest disks together))
  where
    all_same : (qs : List (Spun D)) (n : ℕ) → ((i : ℕ) (q : Spun D) → slice_get qs i ≡ Some q → (state_of state q).size ≡ z.segment_blocks) → length qs ≡ n
        → map (λ (d : D). (state d).size) (map (λ (p : Spun D). disk_of p) qs) ≡ replicate n z.segment_blocks
    all_same [] zero each e = refl
    all_same [] (suc n) each e = absurd (omega (arith, e))
    all_same (q ∷ qs) zero each e = absurd (omega (arith, e))
    all_same (q ∷ qs) (suc n) each e = λ i. each 0 q refl i ∷ all_same qs n (λ j p at. each (suc j) p at) (omega (arith, e)) i

-- ---- The images of a rack go back to their bay in turn, the last first

-- ---- Names of a configuration

-- no two volumes have one name
pub names_apart : (config : Config) → IsValid config → (j k : ℕ) (v w : VolumeConf) → j ≢ k → slice_get config.volumes.items j ≡ Some v → slice_get config.volumes.items k ≡ Some w → v.name ≢ w.name
names_apart config valid j k v w differs at_j at_k same = ⊎_elim
    (λ less. (valid.apart j k v less (slice_get_within config.volumes.items k w at_k)).names (name_at j v v at_j ∙ same ∙ sym (name_at k w v at_k)))
    (λ le. (valid.apart k j v (omega (arith, le, differs)) (slice_get_within config.volumes.items j v at_j)).names (name_at k w v at_k ∙ sym same ∙ sym (name_at j v v at_j)))
    (cases_lt j k)
  where
    name_at : (i : ℕ) (u d : VolumeConf) → slice_get config.volumes.items i ≡ Some u → (get_or config.volumes.items i d).name ≡ u.name
    name_at i u d at = ap (λ (x : VolumeConf). x.name) (get_or_from_slice_get config.volumes.items i u d at)

-- ---- What a bay tells

told_self : (holds : Told → Told → Type 0) (told : Option Told) → ((t : Told) → holds t t) → IsTold holds told told
told_self holds None each = refl
told_self holds (Some t) each = each t

-- what holds of the names of others still does
others_out : (name other : Name) (sizes : List ℕ) (blocks : Option (List (Values Block))) (places : List ℕ) (old new : BayState) → other ≢ name
    → new.told ≡ option_map (came_back name blocks places) old.told → IsOut other sizes old → IsOut other sizes new
others_out name other sizes blocks places old new differs is out = go old.told refl out
  where
    go : (o : Option Told) → old.told ≡ o → IfSome o (λ t. at_name other t.out ≡ Some sizes) → IfSome new.told (λ t. at_name other t.out ≡ Some sizes)
    go None e out = subst (λ (x : Option Told). IfSome x (λ t. at_name other t.out ≡ Some sizes)) (sym (is ∙ ap (option_map (came_back name blocks places)) e)) out
    go (Some t) e out = subst (λ (x : Option Told). IfSome x (λ u. at_name other u.out ≡ Some sizes)) (sym (is ∙ ap (option_map (came_back name blocks places)) e)) (other_gone name other differs t.out ∙ out)

-- ---- The images from one on are back

pub record IsBackFrom {D : Type 0} (state : D → State) (config : Config) (images : List (Option (ImageRest D))) (n : ℕ) (b b' : BayState) : Type 0 where
  pub out : (k : ℕ) (v : VolumeConf) → k < n → slice_get config.volumes.items k ≡ Some v → IsImageOut images k → IsOut v.name (part_sizes (shape_in config v)) b'
  pub names : (before : Option (List (Name × List ℕ))) → IfSome before (λ os. All (λ (v : VolumeConf). at_name v.name os ≡ None) config.volumes.items)
      → outs b ≡ option_map (λ os. os ++ out_names config config.volumes.items images) before → outs b' ≡ option_map (λ os. os ++ out_names config config.volumes.items (take n images)) before
  pub gone : outs b' ≡ option_map (without_all (out_names config (drop n config.volumes.items) (drop n images))) (outs b)
  pub back : IsTold (GivesBack state config images n) b.told b'.told
  pub cause : HasFaultHere state images n → Rose b.faults b'.faults
  pub counts : b.faults ≤ b'.faults

module _ {D : Type 0} (state : D → State) (config : Config) (images : List (Option (ImageRest D))) where
  past : (k : ℕ) → length images ≤ k → image_here images k ≡ None
  past k le = get_or_past images k None le

  pub none_so_far : (b : BayState) → ((k : ℕ) (v : VolumeConf) → slice_get config.volumes.items k ≡ Some v → IsImageOut images k → IsOut v.name (part_sizes (shape_in config v)) b) → IsBackFrom state config images (length images) b b
  none_so_far b are = record {
    out = λ k v less at is. are k v at is;
    names = λ before none is. is ∙ ap (λ (l : List (Option (ImageRest D))). option_map (λ os. os ++ out_names config config.volumes.items l) before) (sym (take_all (length images) images (omega arith)));
    gone = all_there (outs b);
    back = told_self (GivesBack state config images (length images)) b.told (λ t. none_back state config images t past);
    cause = λ fault. absurd (none-some fault.image (sym (past fault.volume fault.behind) ∙ fault.here));
    counts = omega arith;
  }
    where
      all_there : (o : Option (List (Name × List ℕ))) → o ≡ option_map (without_all (out_names config (drop (length images) config.volumes.items) (drop (length images) images))) o
      all_there None = refl
      all_there (Some os) = ap (λ (ns : List (Name × List ℕ)). Some (without_all ns os)) (sym (behind_all config config.volumes.items images))

  module _ (valid : IsValid config) (n : ℕ) (v : VolumeConf) (at : slice_get config.volumes.items n ≡ Some v) (b cur new : BayState) where
    others_named : (k : ℕ) (w : VolumeConf) → k ≢ n → slice_get config.volumes.items k ≡ Some w → w.name ≢ v.name
    others_named k w differs is = names_apart config valid k n w v differs is at

    same_outs : new.told ≡ cur.told → outs new ≡ outs cur
    same_outs e = ap (λ (o : Option Told). option_map (λ t. t.out) o) e

    -- one that isn't out is passed over
    pub passes_over : slice_get images n ≡ Some None → IsBackFrom state config images (suc n) b cur → new.told ≡ cur.told → new.faults ≡ cur.faults → IsBackFrom state config images n b new
    passes_over none so_far told faults = record {
      out = λ k w less is out. subst (λ (o : Option Told). IfSome o (λ t. at_name w.name t.out ≡ Some (part_sizes (shape_in config w)))) (sym told) (so_far.out k w (omega (arith, less)) is out);
      names = λ before away is. same_outs told ∙ so_far.names before away is ∙ ap (λ (l : List (Name × List ℕ)). option_map (λ os. os ++ l) before) (home_more config config.volumes.items images n none);
      gone = same_outs told ∙ so_far.gone ∙ ap (λ (ns : List (Name × List ℕ)). option_map (without_all ns) (outs b)) (sym (behind_home config config.volumes.items images n none));
      back = subst (λ (o : Option Told). IsTold (GivesBack state config images n) b.told o) (sym told) (weaker b.told cur.told so_far.back);
      cause = λ fault. subst (λ (m : ℕ). Rose b.faults m) (sym faults) (so_far.cause (record { volume = fault.volume; behind = behind fault; image = fault.image; here = fault.here; disks = fault.disks; together = fault.together; fault = fault.fault }));
      counts = subst (λ (m : ℕ). b.faults ≤ m) (sym faults) so_far.counts;
    }
      where
        here_none : image_here images n ≡ None
        here_none = get_or_from_slice_get images n None None none

        behind : (fault : HasFaultHere state images n) → suc n ≤ fault.volume
        behind fault = ⊎_elim
            (λ e. absurd (none-some fault.image (sym here_none ∙ ap (image_here images) (sym e) ∙ fault.here)))
            (λ differs. omega (arith, fault.behind, differs))
            (cases_eq fault.volume n)

        weaker : (o m : Option Told) → IsTold (GivesBack state config images (suc n)) o m → IsTold (GivesBack state config images n) o m
        weaker None m given = given
        weaker (Some t) None given = given
        weaker (Some t) (Some u) given = home_passed state config images n t u here_none given

    -- one that is out comes back
    pub comes_back : (r : ImageRest D) (disks : List D) → slice_get images n ≡ Some (Some r) → IsTogether r disks → IfSome cur.told (λ t. AreNamedApart t) → IsBackFrom state config images (suc n) b cur
        → new.told ≡ option_map (came_back v.name (blocks_of state disks) (faulty_places state disks)) cur.told
        → (faulty_places state disks ≢ [] → Rose cur.faults new.faults) → cur.faults ≤ new.faults → IsBackFrom state config images n b new
    comes_back r disks is_out together apart so_far told cause counts = record {
      out = λ k w less is out. others_out v.name w.name (part_sizes (shape_in config w)) (blocks_of state disks) (faulty_places state disks) cur new (others_named k w (λ e. absurd (omega (arith, less, e))) is) told (so_far.out k w (omega (arith, less)) is out);
      names = λ before away is. names_then before away (so_far.names before away is);
      gone = it_goes ∙ ap (option_map (without v.name)) so_far.gone ∙ one_less (out_names config (drop (suc n) config.volumes.items) (drop (suc n) images)) (outs b)
          ∙ ap (λ (ns : List (Name × List ℕ)). option_map (without_all ns) (outs b)) (sym (behind_out config config.volumes.items images n v r at is_out));
      back = subst (λ (o : Option Told). IsTold (GivesBack state config images n) b.told o) (sym told) (stronger b.told cur.told apart so_far.back);
      cause = λ fault. rose fault (cases_eq fault.volume n);
      counts = omega (arith, so_far.counts, counts);
    }
      where
        here : image_here images n ≡ Some r
        here = get_or_from_slice_get images n (Some r) None is_out

        stronger : (o m : Option Told) → IfSome m (λ t. AreNamedApart t) → IsTold (GivesBack state config images (suc n)) o m → IsTold (GivesBack state config images n) o (option_map (came_back v.name (blocks_of state disks) (faulty_places state disks)) m)
        stronger None m apart given = ap (option_map (came_back v.name (blocks_of state disks) (faulty_places state disks))) given
        stronger (Some t) None apart given = given
        stronger (Some t) (Some u) apart given = one_back state config images n v r disks t u at here together others_named apart given

        rose_on : (x y z : ℕ) → Rose x y → y ≤ z → Rose x z
        rose_on x y z (inl less) le = inl (omega (arith, less, le))
        rose_on x y z (inr top) le = inr (omega (arith, top, le))

        same_disks : (es : List D) → IsTogether r es → es ≡ disks
        same_disks es t =
            let home = same_Some t.home together.home (sym t.home_is ∙ together.home_is) in
            let segments = some_each t.segments together.segments (sym t.segments_are ∙ together.segments_are) in
            t.disks_are ∙ rw (home, segments) (sym together.disks_are)
          where
            some_each : (xs ys : List (Spun D)) → map (λ p. Some p) xs ≡ map (λ p. Some p) ys → xs ≡ ys
            some_each [] [] e = refl
            some_each [] (y ∷ ys) e = absurd (cc e)
            some_each (x ∷ xs) [] e = absurd (cc e)
            some_each (x ∷ xs) (y ∷ ys) e = let first : x ≡ y = cc e in let more = some_each xs ys (cc e) in cc

        rose : (fault : HasFaultHere state images n) → (fault.volume ≡ n) ⊎ (fault.volume ≡ n → ⊥) → Rose b.faults new.faults
        rose fault (inl e) =
            let same : fault.image ≡ r = same_Some fault.image r (sym fault.here ∙ ap (image_here images) e ∙ here) in
            let their : IsTogether r fault.disks = subst (λ (q : ImageRest D). IsTogether q fault.disks) same fault.together in
            rose_since b.faults cur.faults new.faults so_far.counts (cause (subst (λ (es : List D). faulty_places state es ≢ []) (same_disks fault.disks their) fault.fault))
        rose fault (inr differs) =
            rose_on b.faults cur.faults new.faults
            (so_far.cause (record { volume = fault.volume; behind = omega (arith, fault.behind, differs); image = fault.image; here = fault.here; disks = fault.disks; together = fault.together; fault = fault.fault })) counts

        it_goes : outs new ≡ option_map (without v.name) (outs cur)
        it_goes = ap (λ (o : Option Told). option_map (λ t. t.out) o) told ∙ through cur.told
          where
            through : (o : Option Told) → option_map (λ t. t.out) (option_map (came_back v.name (blocks_of state disks) (faulty_places state disks)) o) ≡ option_map (without v.name) (option_map (λ t. t.out) o)
            through None = refl
            through (Some t) = refl

        one_less : (ns : List (Name × List ℕ)) (o : Option (List (Name × List ℕ))) → option_map (without v.name) (option_map (without_all ns) o) ≡ option_map (without_all ((v.name, part_sizes (shape_in config v)) ∷ ns)) o
        one_less ns None = refl
        one_less ns (Some os) = refl

        names_then : (before : Option (List (Name × List ℕ))) → IfSome before (λ os. All (λ (w : VolumeConf). at_name w.name os ≡ None) config.volumes.items)
            → outs cur ≡ option_map (λ os. os ++ out_names config config.volumes.items (take (suc n) images)) before → outs new ≡ option_map (λ os. os ++ out_names config config.volumes.items (take n images)) before
        names_then None away is = it_goes ∙ ap (option_map (without v.name)) is
        names_then (Some os) away is =
            let more : out_names config config.volumes.items (take (suc n) images) ≡ out_names config config.volumes.items (take n images) ++ (v.name, part_sizes (shape_in config v)) ∷ [] = out_more config config.volumes.items images n v r at is_out in
            let free : at_name v.name os ≡ None = All-contains (λ (w : VolumeConf). at_name w.name os ≡ None) config.volumes.items v away (n, slice_get_within config.volumes.items n v at, get_or_from_slice_get config.volumes.items n v v at) in
            let apart : at_name v.name (out_names config config.volumes.items (take n images)) ≡ None =
            not_named config config.volumes.items (take n images) v.name (λ k w within at_k. others_named k w (λ same. absurd (let l = length-take n images in omega (arith, l, within, same))) at_k) in
            it_goes ∙ ap (option_map (without v.name)) (is ∙ ap (λ (l : List (Name × List ℕ)). Some (os ++ l)) more) ∙ ap (λ (l : List (Name × List ℕ)). Some l) (last_gone config os (out_names config config.volumes.items (take n images)) v free apart)

  -- the next one comes back, or isn't out
  pub one_more_back : IsValid config → (n : ℕ) (v : VolumeConf) → slice_get config.volumes.items n ≡ Some v → (b cur new : BayState) (image : Option (ImageRest D)) → slice_get images n ≡ Some image → IfSome cur.told (λ t. AreNamedApart t) → IsBackFrom state config images (suc n) b cur
      → IsImageBack state v.name image cur new → IsBackFrom state config images n b new
  one_more_back valid n v at b cur new None is apart so_far back = passes_over valid n v at b cur new is so_far back.0 back.1
  one_more_back valid n v at b cur new (Some r) is apart so_far back = comes_back valid n v at b cur new r back.0 is back.1 apart so_far back.2 back.3 back.4

  -- all are back
  pub all_are_back : (b b' : BayState) → IsBackFrom state config images 0 b b' → LeavesNoneOut config images (outs b) (outs b')
  all_are_back b b' so_far = record { gone = so_far.gone; again = λ before away is. so_far.names before away is ∙ nothing before }
    where
      none_left : out_names {D = D} config config.volumes.items [] ≡ []
      none_left = none_names D config config.volumes.items

      nothing : (o : Option (List (Name × List ℕ))) → option_map (λ os. os ++ out_names {D = D} config config.volumes.items []) o ≡ o
      nothing None = refl
      nothing (Some os) = ap (λ (l : List (Name × List ℕ)). Some (os ++ l)) none_left ∙ ap (λ (l : List (Name × List ℕ)). Some l) (append-nil os)
