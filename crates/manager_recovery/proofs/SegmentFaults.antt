-- What a scan of one segment says of the volume that owns it.
use Rattle.std.proofs.Common.{◌≡◌, ⊎_elim, ◌+◌, ◌<◌, ◌≤◌, ◌^◌, ℕ, Bool, List, [], ◌∷◌, length, take, Option, None, Some, MatchOption, Err, Ok, refl, sym, ap, subst, ◌∙◌, arith}
use Rattle.std.specs.Prelude.{slice_get, option_map, unwrap_or, IsTrue}
use Rattle.std.specs.List.{AllByRecursion}
use Rattle.std.proofs.lemmas.Option.{same_Some, none-some}
use Rattle.wol_disk.specs.Disk.{Block, State, Values, IsDisk, TellsContent, only, reads, settled}
use Rattle.wol_disk.proofs.Images.{reads_only}
use Rattle.wol_model.specs.Heads.{Free, Owned, owned_block, free_block}
use Rattle.wol_model.specs.Log.{Record, IsIdle, IsLog, end_of}
use Rattle.wol_model.proofs.Spellings.{one_segment_head}
use Rattle.spin_model.specs.Spun.{state_of}
use Rattle.logger.proofs.Held.{length-map}
use Rattle.log_scan.specs.Scan.{IsScan, IsScanOf, IsInside, AreFound, IsDamaged, IsFirstFault}
use Rattle.log_scan.specs.declared.Found.{Found}
use Rattle.log_scan.specs.declared.Scan.{Scan}
use Rattle.log_scan.specs.declared.ScanFault.{ScanFault}
use Rattle.log_scan.specs.declared.ScanFault.TheVariants as fault
use Rattle.manager.specs.declared.part.Part.TheVariants as part
use Rattle.manager_recovery.specs.Opening.{SaysOwner}
use Rattle.manager_recovery.specs.Owned as segment
use Rattle.manager_recovery.specs.Owned.{IsIntact, IsFault, PassesEnd, LiesWithin, owned_of, read_of}
use Rattle.manager_recovery.specs.Scanned.{IsReadOf, IsScanned, IsPastEnd, SegmentRefuses}
use Rattle.manager_recovery.specs.Scanned as scanned
use Rattle.manager_recovery.specs.declared.opening.OwnedPart.{OwnedPart}
use Rattle.manager_recovery.specs.declared.refusal.OpenRefusal.{OpenRefusal}
use Rattle.manager_recovery.specs.declared.refusal.OpenRefusal.TheVariants as refusal
use Rattle.manager_recovery.proofs.Lists.{all_get, all_from_places, get_take, take_get, there_is, within}

pub told_is : (d : State) (vs : List (Values Block)) → d.values ≡ Some vs → read_of d ≡ reads vs
told_is d vs is = λ i. unwrap_or (option_map reads (is i)) []

-- ---- Damage that the scan found

fault_inside : (bs : List Block) (p : ℕ) → IsFirstFault bs p → p ≤ length bs
fault_inside bs p f = ⊎_elim (λ h. let z : p ≡ 0 = h.0 in omega arith) (λ h. let w : p ≤ length bs = h.2.within in w) f

pub err_refuses : {D : Type 0} (tells : Bool) (state : D → State) (id home : ℕ) (o n : OwnedPart D) (f : ScanFault) (r : OpenRefusal)
    → ((block : ℕ) → f ≡ fault.Damaged block → (place : ℕ) × (r ≡ refusal.Damaged o.logger place) × (o.first_block + block < 2 ^ 64 → place ≡ o.first_block + block))
    → (f ≡ fault.Failed → r ≡ refusal.DiskFault (part.Segment o.logger o.index)) → (f ≡ fault.NoMemory → r ≡ refusal.NoMemory)
    → (IsTrue tells → TellsContent (state_of state o.part)) → IsDisk (state_of state o.part) → o.first_block + (state_of state o.part).size < 2 ^ 64
    → IsReadOf state o.part n.part (Err f) → SegmentRefuses tells state id home o n r
err_refuses tells state id home o n (fault.Damaged block) r damaged failed none told sound last read =
    let w = damaged block refl in
    subst (SegmentRefuses tells state id home o n) (sym w.1) (
      refl,
      λ t.
          let v = told t in
          let found = read.damaged v.0 block v.1 refl in
          let blocks = told_is (state_of state o.part) v.0 v.1 in
          let inside = fault_inside (reads v.0) block found.1 in
          let long : length (reads v.0) ≡ (state_of state o.part).size = length-map (λ (x : Values Block). x.now) v.0 ∙ sound.each_block v.0 v.1 in
          segment.no_head block (subst IsDamaged (sym blocks) found.0) (subst (λ (bs : List Block). IsFirstFault bs block) (sym blocks) found.1) (w.2 (omega (arith, inside, long, last))),
    )
err_refuses tells state id home o n fault.Failed r damaged failed none told sound last read = subst (SegmentRefuses tells state id home o n) (sym (failed refl)) (refl, refl, read.cause refl)
err_refuses tells state id home o n fault.NoMemory r damaged failed none told sound last read = subst (SegmentRefuses tells state id home o n) (sym (none refl)) tt

-- ---- A segment that was read back

settled_scan : (old new : Option (List (Values Block))) (s : Scan) → ((vs : List (Values Block)) → old ≡ Some vs → IsScanOf (reads vs) s) → new ≡ option_map settled old
    → (ws : List (Values Block)) → new ≡ Some ws → (ws ≡ only (reads ws)) × IsScanOf (reads ws) s
settled_scan None new s f e ws is = absurd (none-some ws (sym e ∙ is))
settled_scan (Some vs) new s f e ws is =
    let same : settled vs ≡ ws = same_Some (settled vs) ws (sym e ∙ is) in
    let back : reads (only (reads vs)) ≡ reads vs = reads_only (reads vs) in
    subst (λ (l : List (Values Block)). (l ≡ only (reads l)) × IsScanOf (reads l) s) same ((λ i. only (sym back i)), subst (λ (bs : List Block). IsScanOf bs s) (sym back) (f vs refl))

pub scanned_now : {D : Type 0} (state : D → State) (id home : ℕ) (o n : OwnedPart D) (s : Scan) → IsReadOf state o.part n.part (Ok s)
    → (s.owner ≡ Some id) × AllByRecursion (λ (f : Found). f.head.lbn + f.head.count ≤ home) s.records.items → IsScanned state id home n s
scanned_now state id home o n s read whole = record {
  shape = subst (λ (size : ℕ). IsScan size s) (sym read.as_before.size) read.shape;
  owner = whole.0;
  scanned = settled_scan (state_of state o.part).values (state_of state n.part).values s read.scanned read.settled_;
  within = whole.1;
}

abbrev FoundLog : List Block → (id : ℕ) → Scan → Type 0
FoundLog bs id s = (rs : List Record) × IsLog bs id rs × AreFound rs s.records.items × (s.end ≡ end_of rs)

pub scan_log : (bs : List Block) (id : ℕ) (s : Scan) → s.owner ≡ Some id → IsScanOf bs s → FoundLog bs id s
scan_log bs id s owner scan =
    let P : Option ℕ → Type 0 = λ o. MatchOption o (IsIdle bs × (s.records.items ≡ []) × (s.end ≡ 1)) (λ v. FoundLog bs v s) in
    subst P owner scan

-- the records in a front lie in the volume where those found do
front_within : (home k : ℕ) (rs : List Record) (fs : List Found) → AreFound rs fs → AllByRecursion (λ (f : Found). f.head.lbn + f.head.count ≤ home) (take k fs) → AllByRecursion (LiesWithin home) (take k rs)
front_within home k rs fs found all = all_from_places (LiesWithin home) (take k rs) (λ j r is.
    let at = get_take rs k j r is in
    let inside = within rs j r at.1 in
    let f = there_is fs j (let long : length fs ≡ length rs = found.all in omega (arith, inside, long)) in
    let its = found.each j f.0 f.1 in
    let le : f.0.head.lbn + f.0.head.count ≤ home = all_get (λ (g : Found). g.head.lbn + g.head.count ≤ home) (take k fs) j f.0 (take_get fs k j f.0 at.0 f.1) all in
    subst (LiesWithin home) (same_Some its.whose r (sym its.there ∙ at.1)) (subst (λ (h : _). h.first + h.count ≤ home) its.head le))

take_all : {X : Type 0} (xs : List X) → take (length xs) xs ≡ xs
take_all [] = refl
take_all (x ∷ xs) = λ i. x ∷ take_all xs i

pub intact_from : (bs : List Block) (logger index first id home : ℕ) (s : Scan) → IsScanOf bs s → (s.owner ≡ Some id) × AllByRecursion (λ (f : Found). f.head.lbn + f.head.count ≤ home) s.records.items
    → IsIntact id home (record { logger = logger; index = index; first = first; blocks = bs })
intact_from bs logger index first id home s scan whole =
    let w = scan_log bs id s whole.0 scan in
    let fs = s.records.items in
    let front = front_within home (length fs) w.0 fs w.2 (subst (AllByRecursion (λ (f : Found). f.head.lbn + f.head.count ≤ home)) (sym (take_all fs)) whole.1) in
    record { records = w.0; log = w.1; within = subst (AllByRecursion (LiesWithin home)) ((λ i. take (w.2.all i) w.0) ∙ take_all w.0) front }

-- ---- Damage that shows in what the scan found

owner_is : (bs rest : List Block) (id : ℕ) (s : Scan) (o : Option ℕ) → id < 2 ^ 32 → bs ≡ owned_block id ∷ rest
    → MatchOption o (IsIdle bs × (s.records.items ≡ []) × (s.end ≡ 1)) (λ v. FoundLog bs v s) → o ≡ Some id
owner_is bs rest id s None lt is scan =
    let idle : owned_block id ≡ free_block = subst IsIdle is scan.0 in
    let same : Free ≡ Owned id = one_segment_head (owned_block id) Free (Owned id) (record { in_range = tt; bytes = idle }) (record { in_range = lt; bytes = refl }) in
    absurd cc
owner_is bs rest id s (Some v) lt is scan =
    let joined : owned_block v ∷ _ ≡ owned_block id ∷ rest = sym scan.1.joined ∙ is in
    let first : owned_block v ≡ owned_block id = cc in
    let same : Owned v ≡ Owned id = one_segment_head (owned_block v) (Owned v) (Owned id) (record { in_range = scan.1.known; bytes = refl }) (record { in_range = lt; bytes = first }) in
    let e : v ≡ id = cc in
    ap Some e

pub fault_from : {D : Type 0} (state : D → State) (id home : ℕ) (o : OwnedPart D) (vs : List (Values Block)) (s : Scan) (pos : ℕ) → id < 2 ^ 32 → (state_of state o.part).values ≡ Some vs → SaysOwner state id o
    → IsScanOf (reads vs) s → IsPastEnd s id home pos → IsFault id home (owned_of state o) (o.first_block + pos)
fault_from state id home o vs s pos lt is says scan (scanned.foreign other zero_) =
    let head = says vs is in
    absurd (other (owner_is (reads vs) head.0 id s s.owner lt head.1 scan))
fault_from state id home o vs s pos lt is says scan (scanned.passes k f owner at pos_is past before) =
    let blocks = told_is (state_of state o.part) vs is in
    let w = scan_log (reads vs) id s owner scan in
    let its = w.2.each k f at in
    segment.past_end w.0 k (subst (λ (bs : List Block). IsLog bs id w.0) (sym blocks) w.1)
    (record { record_ = its.whose; there = its.there; passes = subst (λ (h : _). home < h.first + h.count) its.head past; before = front_within home k w.0 s.records.items w.2 before })
    (λ i. o.first_block + (pos_is ∙ its.pos) i)

-- the place lies in the segment
pub pos_inside : (blocks id home pos : ℕ) (s : Scan) → IsScan blocks s → IsPastEnd s id home pos → pos ≤ blocks
pos_inside blocks id home pos s shape (scanned.foreign other zero_) = omega arith
pos_inside blocks id home pos s shape (scanned.passes k f owner at pos_is past before) =
    let P : Option ℕ → Type 0 = λ o. MatchOption o (s.records.items ≡ []) (λ v. AllByRecursion (IsInside blocks v) s.records.items) in
    let heads : AllByRecursion (IsInside blocks id) s.records.items = subst P owner shape.heads in
    let inside = all_get (IsInside blocks id) s.records.items k f at heads in
    let fits : f.pos + 1 + f.head.count ≤ blocks = inside.fits in
    omega (arith, fits, pos_is)

-- the answer of a search through the records of the volume's own segment
pub past_answer : (s : Scan) (id home owner : ℕ) (fs : List Found) (res : Option ℕ) → s.owner ≡ Some owner → owner ≡ id → fs ≡ s.records.items
    → MatchOption res (AllByRecursion (λ (f : Found). f.head.lbn + f.head.count ≤ home) fs)
    (λ pos. (k : ℕ) × (f : Found) × (slice_get fs k ≡ Some f) × (pos ≡ f.pos) × (home < f.head.lbn + f.head.count) × AllByRecursion (λ (g : Found). g.head.lbn + g.head.count ≤ home) (take k fs))
    → MatchOption res ((s.owner ≡ Some id) × AllByRecursion (λ (f : Found). f.head.lbn + f.head.count ≤ home) s.records.items) (IsPastEnd s id home)
past_answer s id home owner fs None has is same all = (has ∙ ap Some is, subst (AllByRecursion (λ (f : Found). f.head.lbn + f.head.count ≤ home)) same all)
past_answer s id home owner fs (Some pos) has is same w =
    scanned.passes w.0 w.1 (has ∙ ap Some is) ((λ i. slice_get (sym same i) w.0) ∙ w.2) w.3 w.4 (subst (λ (l : List Found). AllByRecursion (λ (g : Found). g.head.lbn + g.head.count ≤ home) (take w.0 l)) same w.5)
