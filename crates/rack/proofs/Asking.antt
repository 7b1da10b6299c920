-- The images of a configuration that are asked for one after the other.
use Rattle.rack.proofs.Basics.{◌≡◌, inl, inr, ⊎_elim, ℕ, ◌+◌, ◌-◌, ◌^◌, ◌<◌, ◌≤◌, Bool, true, false, List, [], ◌∷◌, ◌++◌, length, get_or, Option, None, Some, option_map, IfSome, Result, Ok}
use Rattle.rack.proofs.Basics.{Err, IfOk, IfErr, refl, sym, ap, ◌∙◌, subst, arith, slice_get, cases_lt, length_push, none-some, same_Some, slice_get-map, IsTrue}
use Rattle.rack.proofs.Terms.{State, Rose, Shape, Name, Told, BayState, at_name, refusal, refusal_of, BayFault, Config, VolumeConf, part_sizes, IsTold, shape_in, shapes_of, image_here}
use Rattle.rack.proofs.Terms.{AreNewImages, PushesImage, HasFaulty, RefusesVolume, RefusesImage, said_at, fault_at, IsRefused, WasAtEntry, AreAsked, StayedAs, IsNextOpened, IsNextRefused}
use Rattle.rack.proofs.Terms.{Said, ImageRest, VolumeFault, Absent, WrongLength, Refused, LabelFault, BayFailed, image_by}
use Rattle.volume_images.proofs.Refused.{rose_since}
use Rattle.rack.specs.Opening.{IsOut}
use Rattle.rack.specs.declared.images.Images.{Images}
use Rattle.rack.proofs.NewFaults.{told_each, sent_faulty, fault_since, fault_later}
use Rattle.rack.proofs.Places.{at_less, at_new, push_cases}
use Rattle.rack.specs.Making.{said_by, fault_by}

-- ---- Faults that rise

pub rose_on : (a b c : ℕ) → Rose a b → b ≤ c → Rose a c
rose_on a b c rose le = ⊎_elim (λ (lt : a < b). inl (omega (arith, lt, le))) (λ (top : 2 ^ 64 - 1 ≤ b). inr (omega (arith, top, le))) rose

-- what a bay tells at three moments in order
pub told_then : (P Q R : Told → Told → Type 0) (e o n : Option Told) → ((x y z : Told) → e ≡ Some x → P x y → Q y z → R x z) → IsTold P e o → IsTold Q o n → IsTold R e n
told_then P Q R None None n each first then = then
told_then P Q R None (Some o) n each first then = absurd (cc first)
told_then P Q R (Some e) None n each first then = absurd first
told_then P Q R (Some e) (Some o) None each first then = absurd then
told_then P Q R (Some e) (Some o) (Some n) each first then = each e o n refl first then

-- the name has the image that it had
abbrev pub SameAt : Name → Told → Told → Type 0
SameAt name old new = (at_name name new.images ≡ at_name name old.images) × HasFaulty old new

module _ {D : Type 0} (tells : Bool) (state : D → State) (config : Config) where
  image_later : (out : List (Option (ImageRest D))) (b b1 b2 : BayState) (k : ℕ) (v : VolumeConf) (f : VolumeFault) → b1.faults ≤ b2.faults → IsTold HasFaulty b1.told b2.told
      → RefusesImage config out b b1 k v f → RefusesImage config out b b2 k v f
  image_later out b b1 b2 k v f le gained r = record {
    not_out = r.not_out;
    image_fault = r.image_fault;
    is_fault = r.is_fault;
    said = r.said;
    cause = λ call. rose_on b.faults b1.faults b2.faults (r.cause call) le;
    faulty = λ call. fault_later v.name r.image_fault b.told b1.told b2.told (r.faulty call) gained;
  }

  -- a cause stays one while the bay goes on
  pub refuses_later : (out : List (Option (ImageRest D))) (b b1 b2 : BayState) (k : ℕ) (v : VolumeConf) (f : VolumeFault) → b1.faults ≤ b2.faults → IsTold HasFaulty b1.told b2.told
      → RefusesVolume tells state config out b b1 k v f → RefusesVolume tells state config out b b2 k v f
  refuses_later out b b1 b2 k v Absent le gained r = r
  refuses_later out b b1 b2 k v (WrongLength bytes) le gained r = r
  refuses_later out b b1 b2 k v BayFailed le gained r = (r.0, rose_on b.faults b1.faults b2.faults r.1 le)
  refuses_later out b b1 b2 k v LabelFault le gained r = image_later out b b1 b2 k v LabelFault le gained r
  refuses_later out b b1 b2 k v (Refused f) le gained r = ⊎_elim (λ i. inl (image_later out b b1 b2 k v (Refused f) le gained i)) (λ o. inr o) r

  bay_since : (name : Name) (sizes : List ℕ) (answer : Option BayFault) (o o1 : Option Told) → IsTold (SameAt name) o o1 → IfSome o1 (λ t. refusal name sizes t ≡ answer)
      → IfSome o (λ t. refusal name sizes t ≡ answer)
  bay_since name sizes answer None o1 same h = tt
  bay_since name sizes answer (Some t) None same h = absurd same
  bay_since name sizes answer (Some t) (Some t1) same h = ap (refusal_of sizes) (sym same.0) ∙ h

  told_there : (name : Name) (t : Told) (o o1 : Option Told) → o ≡ Some t → IsTold (SameAt name) o o1 → (t1 : Told) × (o1 ≡ Some t1) × SameAt name t t1
  told_there name t o None e same = absurd (subst (λ (x : Option Told). IsTold (SameAt name) x None) e same)
  told_there name t o (Some t1) e same = (t1, refl, subst (λ (x : Option Told). IsTold (SameAt name) x (Some t1)) e same)

  image_since : (b b1 b2 : BayState) (k : ℕ) (v : VolumeConf) (f : VolumeFault) → IsTold (SameAt v.name) b.told b1.told → b.faults ≤ b1.faults → RefusesImage {D = D} config [] b1 b2 k v f → RefusesImage {D = D} config [] b b2 k v f
  image_since b b1 b2 k v f same le r = record {
    not_out = r.not_out;
    image_fault = r.image_fault;
    is_fault = r.is_fault;
    said = λ t told. (let then = told_there v.name t b.told b1.told told same in let was = r.said then.0 then.1 in (was.0, sym then.2.0 ∙ was.1, was.2, was.3, was.4));
    cause = λ call. rose_since b.faults b1.faults b2.faults le (r.cause call);
    faulty = λ call. fault_since v.name r.image_fault b.told b1.told b2.told
        (told_each (SameAt v.name) HasFaulty b.told b1.told (λ x y s. s.1) same) (r.faulty call);
  }

  -- and was one before
  pub refuses_since : (b b1 b2 : BayState) (k : ℕ) (v : VolumeConf) (f : VolumeFault) → IsTold (SameAt v.name) b.told b1.told → b.faults ≤ b1.faults → RefusesVolume {D = D} tells state config [] b1 b2 k v f → RefusesVolume {D = D} tells state config [] b b2 k v f
  refuses_since b b1 b2 k v Absent same le r = (r.0, bay_since v.name (part_sizes (shape_in config v)) _ b.told b1.told same r.1)
  refuses_since b b1 b2 k v (WrongLength bytes) same le r = (r.0, bay_since v.name (part_sizes (shape_in config v)) _ b.told b1.told same r.1)
  refuses_since b b1 b2 k v BayFailed same le r = ((r.0.0, bay_since v.name (part_sizes (shape_in config v)) _ b.told b1.told same r.0.1), rose_since b.faults b1.faults b2.faults le r.1)
  refuses_since b b1 b2 k v LabelFault same le r = image_since b b1 b2 k v LabelFault same le r
  refuses_since b b1 b2 k v (Refused f) same le r = ⊎_elim (λ i. inl (image_since b b1 b2 k v (Refused f) same le i)) (λ o. absurd (let out : false ≡ true = o.is_out in cc)) r

  -- ---- One image more

  module _ (b b1 b2 : BayState) (n : ℕ) (i1 i2 : Images D) (v : VolumeConf) (at : slice_get config.volumes.items n ≡ Some v)
      (asked : AreAsked tells state config b b1 n i1) (same : IsTold (SameAt v.name) b.told b1.told) (le : b.faults ≤ b1.faults) where
    same_volume : (k : ℕ) (w : VolumeConf) → k ≡ n → slice_get config.volumes.items k ≡ Some w → v ≡ w
    same_volume k w e found = same_Some v w (sym at ∙ sym (ap (λ (j : ℕ). slice_get config.volumes.items j) e) ∙ found)

    same_shape : (k : ℕ) (s : Shape) → k ≡ n → slice_get (shapes_of config) k ≡ Some s → shape_in config v ≡ s
    same_shape k s e found =
        same_Some (shape_in config v) s (sym (ap (option_map (shape_in config)) at) ∙ sym (slice_get-map (shape_in config) config.volumes.items n) ∙ sym (ap (λ (j : ℕ). slice_get (shapes_of config) j) e) ∙ found)

    refused_before : (k : ℕ) (w : VolumeConf) → b1.faults ≤ b2.faults → IsTold HasFaulty b1.told b2.told → said_at i2.said.items k ≡ said_at i1.said.items k → fault_at i2.faults.items k ≡ fault_at i1.faults.items k
        → IsRefused tells state config b b1 k w i1 → IsRefused tells state config b b2 k w i2
    refused_before k w later gained said fault r = record {
      unsaid = said ∙ r.unsaid;
      fault = r.fault;
      fault_is = fault ∙ r.fault_is;
      refuses = refuses_later [] b b1 b2 k w r.fault later gained r.refuses;
    }

    out_before : (k : ℕ) (s : Shape) (r : ImageRest D) → said_at i2.said.items k ≡ said_at i1.said.items k → fault_at i2.faults.items k ≡ fault_at i1.faults.items k
        → IsOut state (length (shapes_of config)) k s i1 r → IsOut state (length (shapes_of config)) k s i2 r
    out_before k s r said fault o = record { said = o.said; said_is = said ∙ o.said_is; no_fault = fault ∙ o.no_fault; rest = o.rest; all = o.all; says = o.says; heads = o.heads }

    -- the next one is out or refused, as it is said
    asked_next : (opened : Result (Said × ImageRest D) VolumeFault) → PushesImage i1 i2 opened → b1.faults ≤ b2.faults → IsTold HasFaulty b1.told b2.told → (image_by opened ≡ None → IsRefused tells state config b b2 n v i2)
        → ((r : ImageRest D) → image_by opened ≡ Some r → IsOut state (length (shapes_of config)) n (shape_in config v) i2 r)
        → (IsTrue tells → (t : Told) → b.told ≡ Some t → (own : Said) (r : ImageRest D) → said_by opened ≡ Some own → image_by opened ≡ Some r → WasAtEntry state config t n v own r) → AreAsked tells state config b b2 (n + 1) i2
    asked_next opened pushes later gained refused out entry = record {
      said_count = ap (λ l. length l) pushes.said.0 ∙ length_push i1.said.items (said_by opened) ∙ ap (λ m. m + 1) asked.said_count;
      out_count = ap (λ l. length l) pushes.out.0 ∙ length_push i1.out.items (image_by opened) ∙ ap (λ m. m + 1) asked.out_count;
      fault_count = ap (λ l. length l) pushes.faults.0 ∙ length_push i1.faults.items (fault_by opened) ∙ ap (λ m. m + 1) asked.fault_count;
      refused = λ k w lt found none.
          let none_now : get_or (i1.out.items ++ image_by opened ∷ []) k None ≡ None = sym (ap (λ l. get_or l k None) pushes.out.0) ∙ none in
          ⊎_elim
          (λ (less : k < n). refused_before k w later gained (said_less k less) (fault_less k less) (asked.refused k w less found (sym (at_less i1.out.items (image_by opened) n asked.out_count k less) ∙ none_now)))
          (λ (more : n ≤ k).
          let e : k ≡ n = omega (arith, more, lt) in
          let none_n : image_by opened ≡ None = sym (at_new i1.out.items (image_by opened) n asked.out_count) ∙ ap (λ (j : ℕ). get_or (i1.out.items ++ image_by opened ∷ []) j None) (sym e) ∙ none_now in
          let R : ℕ → VolumeConf → Type 0 = λ j u. IsRefused tells state config b b2 j u i2 in
          subst (λ (j : ℕ). R j w) (sym e) (subst (λ (u : VolumeConf). R n u) (same_volume k w e found) (refused none_n)))
          (cases_lt k n);
      out = λ k s q shape here.
          ⊎_elim
          (λ was. out_before k s q (said_less k was.0) (fault_less k was.0) (asked.out k s q shape was.1))
          (λ now.
          let O : ℕ → Shape → Type 0 = λ j t. IsOut state (length (shapes_of config)) j t i2 q in
          subst (λ (j : ℕ). O j s) (sym now.0) (subst (λ (t : Shape). O n t) (same_shape k s now.0 shape) (out q now.1)))
          (push_cases i1.out.items (image_by opened) n asked.out_count k q (sym (ap (λ l. get_or l k None) pushes.out.0) ∙ here));
      entry = λ telling t told k w own q found says here.
          ⊎_elim
          (λ was. asked.entry telling t told k w own q found (sym (said_less k was.0) ∙ says) was.1)
          (λ now.
          let says_n : said_by opened ≡ Some own = sym (ap (λ l. get_or l n None) pushes.said.0 ∙ at_new i1.said.items (said_by opened) n asked.said_count) ∙ sym (ap (λ (j : ℕ). said_at i2.said.items j) now.0) ∙ says in
          let W : ℕ → VolumeConf → Type 0 = λ j u. WasAtEntry state config t j u own q in
          subst (λ (j : ℕ). W j w) (sym now.0) (subst (λ (u : VolumeConf). W n u) (same_volume k w now.0 found) (entry telling t told own q says_n now.1)))
          (push_cases i1.out.items (image_by opened) n asked.out_count k q (sym (ap (λ l. get_or l k None) pushes.out.0) ∙ here));
    }
      where
        said_less : (k : ℕ) → k < n → said_at i2.said.items k ≡ said_at i1.said.items k
        said_less k less = ap (λ l. get_or l k None) pushes.said.0 ∙ at_less i1.said.items (said_by opened) n asked.said_count k less

        fault_less : (k : ℕ) → k < n → fault_at i2.faults.items k ≡ fault_at i1.faults.items k
        fault_less k less = ap (λ l. get_or l k None) pushes.faults.0 ∙ at_less i1.faults.items (fault_by opened) n asked.fault_count k less

    pub asked_more : (opened : Result (Said × ImageRest D) VolumeFault) → PushesImage i1 i2 opened → IfOk opened (λ pair. (w : VolumeConf) → slice_get config.volumes.items n ≡ Some w → IsNextOpened tells state config n w b1 b2 pair.0 pair.1)
        → IfErr opened (λ fault. (w : VolumeConf) → slice_get config.volumes.items n ≡ Some w → IsNextRefused {D = D} tells state config n w b1 b2 fault) → AreAsked tells state config b b2 (n + 1) i2
    asked_more (Ok pair) pushes ok err =
        let next = ok v at in
        asked_next (Ok pair) pushes next.counts (sent_faulty v.name (part_sizes (shape_in config v)) b1.told b2.told next.sent)
        (λ none. absurd (none-some pair.1 (sym none)))
        (λ r is. subst (λ (x : ImageRest D). IsOut state (length (shapes_of config)) n (shape_in config v) i2 x) (same_Some pair.1 r is) (record {
          said = pair.0;
          said_is = ap (λ l. get_or l n None) pushes.said.0 ∙ at_new i1.said.items (Some pair.0) n asked.said_count;
          no_fault = ap (λ l. get_or l n None) pushes.faults.0 ∙ at_new i1.faults.items None n asked.fault_count;
          rest = next.rest;
          all = next.all;
          says = next.says;
          heads = next.heads;
        }))
        (λ telling t told own r says is.
        let then = told_there v.name t b.told b1.told told same in
        let new = next.entry telling then.0 then.1 in
        let was_there : WasAtEntry state config t n v pair.0 pair.1 = record { image = new.image; there = sym then.2.0 ∙ new.there; says = new.says; cut = new.cut } in
        subst (λ (y : Said). WasAtEntry state config t n v y r) (same_Some pair.0 own says) (subst (λ (x : ImageRest D). WasAtEntry state config t n v pair.0 x) (same_Some pair.1 r is) was_there))
    asked_more (Err fault) pushes ok err =
        let next = err v at in
        asked_next (Err fault) pushes next.counts (told_each (StayedAs v.name) HasFaulty b1.told b2.told (λ x y s. s.faulty) next.left)
        (λ none. record {
          unsaid = ap (λ l. get_or l n None) pushes.said.0 ∙ at_new i1.said.items None n asked.said_count;
          fault = fault;
          fault_is = ap (λ l. get_or l n None) pushes.faults.0 ∙ at_new i1.faults.items (Some fault) n asked.fault_count;
          refuses = refuses_since b b1 b2 n v fault same le next.refuses;
        })
        (λ r is. absurd (none-some r is))
        (λ telling t told own r says is. absurd (none-some r is))

  -- the faults of the bay may go on
  pub asked_later : (b b1 b2 : BayState) (n : ℕ) (i : Images D) → b1.faults ≤ b2.faults → IsTold HasFaulty b1.told b2.told → AreAsked tells state config b b1 n i → AreAsked tells state config b b2 n i
  asked_later b b1 b2 n i le gained asked = record {
    said_count = asked.said_count;
    out_count = asked.out_count;
    fault_count = asked.fault_count;
    refused = λ k w lt found none. let r = asked.refused k w lt found none in record { unsaid = r.unsaid; fault = r.fault; fault_is = r.fault_is; refuses = refuses_later [] b b1 b2 k w r.fault le gained r.refuses };
    out = asked.out;
    entry = asked.entry;
  }

  -- before the first
  pub none_asked : (b : BayState) (volumes : ℕ) (i : Images D) → AreNewImages volumes i → AreAsked tells state config b b 0 i
  none_asked b volumes i new =
      let none : (k : ℕ) (r : ImageRest D) → image_here i.out.items k ≡ Some r → ⊥ = λ k r here. none-some r (sym (ap (λ (l : List (Option (ImageRest D))). get_or l k None) new.out.0) ∙ here) in
      record {
        said_count = ap (λ (l : List (Option Said)). length l) new.said.0;
        out_count = ap (λ (l : List (Option (ImageRest D))). length l) new.out.0;
        fault_count = ap (λ (l : List (Option VolumeFault)). length l) new.faults.0;
        refused = λ k w lt found none_here. absurd (omega (arith, lt));
        out = λ k s r shape here. absurd (none k r here);
        entry = λ telling t told k w own r found says here. absurd (none k r here);
      }
