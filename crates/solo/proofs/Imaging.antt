-- The image of a run: it goes out blank and comes back as the run left it.
use Rattle.std.proofs.Common.{◌≡◌, inl, inr, ℕ, ◌+◌, Bool, true, false, cond, List, [], ◌∷◌, ◌++◌, Option, None, Some, Result, Ok, Err, refl, sym, ap, ◌∙◌, append-nil, length, take, drop, arith}
use Rattle.std.proofs.lemmas.List.{drop_all, length-map, take_all}
use Rattle.std.specs.Prelude.{◌≢◌, codes, nat_lt, option_map, IfSome, IsSome}
use Rattle.wol_disk.specs.Disk.{Block, State, Values, only, reads}
use Rattle.wol_disk.specs.Zeros.{zeros}
use Rattle.wol_disk.proofs.Images.{reads_only}
use Rattle.wol_bay.specs.Bay.{Told, came_back, each_place, sent_out, stored, without}
use Rattle.wol_bay.specs.Parts.{AreBlank, IsBlank, blocks_of, faulty_from, faulty_places, joined, sizes_of}
use Rattle.wol_bay.specs.declared.fault.BayFault.{BayFault}
use Rattle.wol_bay.specs.declared.fault.BayFault.TheVariants as bay
use Rattle.wol_io.proofs.Appending.{keeps_same}
use Rattle.wol_model.specs.Trace.{Request, Target, TraceLine}
use Rattle.solo.specs.declared.fault.Fault.{Fault}
use Rattle.solo.specs.declared.fault.Fault.TheVariants as fault
use Rattle.solo.specs.declared.tally.Tally.{Tally}
use Rattle.solo.specs.Faults.{fault_of_bay}
use Rattle.solo.specs.Images.{BeginsBlank, IsOnePart, LeavesImages, PartCameBackFaulty, RunsInBay, RunsOnFirst, Stores, LeavesBy}
use Rattle.solo.specs.Requests.{asked_of, requests_at}
use Rattle.solo.specs.Runs.{AnsweredAll, Ends, EndsBy, Runs, RunsWhole, StopsBy, StopsIn}
use Rattle.solo.specs.Served.{IsSettled, LeavesCutOf, LeftBy, content_after, content_of}
use Rattle.solo.specs.Summed.{SumsUp}
use Rattle.solo.specs.Texts.{summary_text}

-- ---- The last line

-- all was run, and then the last line was written
pub summed : {T : Type 0} (target : Target) (trace left : Option (List ℕ)) (array : Option (List Block)) (tally : Tally) (result : Result T Fault) (old mid new : Option (List ℕ)) (values : Option (List (Values Block)))
    → RunsWhole target trace array tally old mid values → SumsUp result mid new (summary_text tally) → Ends target trace left array result old new values
summed target trace left array tally (Ok x) old mid new values whole sums = (tally, mid, whole, sums)
summed target trace left array tally (Err fault.Sink) old mid new values whole sums = inr (tally, mid, whole, sums)
summed target trace left array tally (Err fault.NoMemory) old mid new values whole sums = inr (inr (tally, mid, whole, sums))
summed target trace left array tally (Err fault.Bay) old mid new values whole sums = absurd sums
summed target trace left array tally (Err fault.Disk) old mid new values whole sums = absurd sums
summed target trace left array tally (Err (fault.BadLine line why)) old mid new values whole sums = absurd sums
summed target trace left array tally (Err fault.Spent) old mid new values whole sums = absurd sums
summed target trace left array tally (Err fault.Source) old mid new values whole sums = absurd sums

-- the trace wasn't run to its end
pub stopped : (e : Fault) (target : Target) (trace left : Option (List ℕ)) (array : Option (List Block)) (old new : Option (List ℕ)) (values : Option (List (Values Block))) → StopsBy e target trace left array old new values → EndsBy e target trace left array old new values
stopped fault.Bay target trace left array old new values stops = absurd stops
stopped fault.Sink target trace left array old new values stops = inl stops
stopped fault.Disk target trace left array old new values stops = stops
stopped fault.NoMemory target trace left array old new values stops = inr (inl stops)
stopped (fault.BadLine line why) target trace left array old new values stops = stops
stopped fault.Spent target trace left array old new values stops = stops
stopped fault.Source target trace left array old new values stops = stops

-- ---- The image

zero_settled : (values : Option (List (Values Block))) (n : ℕ) → IfSome values (λ vs. vs ≡ only (zeros n)) → IsSettled values
zero_settled None n zero = refl
zero_settled (Some vs) n zero = ap Some (zero ∙ ap only (sym (reads_only (zeros n)) ∙ ap reads (sym zero)))

blank_begins : (target : Target) (told : Option Told) (part : State) → IsBlank target.home told part → BeginsBlank target told (content_of part.values)
blank_begins target None part blank = tt
blank_begins target (Some t) part blank = ap content_of blank.content ∙ ap Some (reads_only (zeros target.home))

came_stored : (values : Option (List (Values Block))) → joined values (Some []) ≡ values
came_stored None = refl
came_stored (Some vs) = ap Some (append-nil vs)

stores : (told mid new : Option Told) (sizes places : List ℕ) (values : Option (List (Values Block))) → IfSome told (λ _. IsSome values) → mid ≡ option_map (sent_out (codes "solo") sizes) told
    → new ≡ option_map (came_back (codes "solo") (joined values (Some [])) places) mid → Stores told new values
stores None mid new sizes places values some sent back = tt
stores (Some t) mid new sizes places None some sent back = absurd (cc some)
stores (Some t) mid new sizes places (Some vs) some sent back =
    rw (back, sent) (ap (λ (blocks : Option (List (Values Block))). stored (codes "solo") blocks (without (codes "solo") t.images)) (came_stored (Some vs)))

-- where the array was told, so are the values that a stop leaves
cut_told : (array : Option (List Block)) (answered flight : List Request) (values : Option (List (Values Block))) → LeavesCutOf array answered flight values → IfSome array (λ _. IsSome values)
cut_told None answered flight values cuts = tt
cut_told (Some a) answered flight None cuts = absurd cuts
cut_told (Some a) answered flight (Some vs) cuts = refl

left_told : (e : Fault) (array : Option (List Block)) (rs : List Request) (old new : Option (List ℕ)) (values : Option (List (Values Block))) → LeftBy e array rs old new values → IfSome array (λ _. IsSome values)
left_told fault.Disk array rs old new values (first, r, next, answered, cuts) = cut_told array first (r ∷ []) values cuts
left_told fault.NoMemory array rs old new values (first, r, next, is, answered, cuts) = cut_told array first [] values cuts
left_told fault.Sink array rs old new values (first, r, next, is, cuts, mid, answered, front) = cut_told array first [] values cuts
left_told fault.Bay array rs old new values left = absurd left
left_told (fault.BadLine line why) array rs old new values left = absurd left
left_told fault.Spent array rs old new values left = absurd left
left_told fault.Source array rs old new values left = absurd left

module _ (target : Target) (trace left : Option (List ℕ)) (array : Option (List Block)) (old new : Option (List ℕ)) (values : Option (List (Values Block))) where
  all_told : (lines : List (Option TraceLine)) → AnsweredAll target lines array old new values → IfSome array (λ _. IsSome values)
  all_told lines (answered, cuts) = cut_told array (asked_of target lines) [] values cuts

  line_told : (e : Fault) → StopsIn e target trace left array old new values → IfSome array (λ _. IsSome values)
  line_told e (lines, last, held, taken, mid, answered, stops) =
      after (asked_of target lines) array (left_told e (content_after (asked_of target lines) array) (requests_at target (length lines + 1) last) mid new values stops) where
        after : (rs : List Request) (was : Option (List Block)) → IfSome (content_after rs was) (λ _. IsSome values) → IfSome was (λ _. IsSome values)
        after rs None some = tt
        after rs (Some a) some = some

  stop_told : (e : Fault) → StopsBy e target trace left array old new values → IfSome array (λ _. IsSome values)
  stop_told (fault.BadLine line why) (lines, more, has, number, held, taken, all) = all_told lines all
  stop_told fault.Spent (lines, next, more, has, number, held, taken, all) = all_told lines all
  stop_told fault.Source (lines, held, cut, taken, all) = all_told lines all
  stop_told fault.Disk stops = line_told fault.Disk stops
  stop_told fault.Sink stops = line_told fault.Sink stops
  stop_told fault.NoMemory (inl (lines, held, taken, all)) = all_told lines all
  stop_told fault.NoMemory (inr stops) = line_told fault.NoMemory stops
  stop_told fault.Bay stops = absurd stops

  run_told : (ran : Result Tally Fault) → Runs target trace left array ran old new values → IfSome array (λ _. IsSome values)
  run_told (Ok tally) (lines, has, few, counted, all) = all_told lines all
  run_told (Err e) stops = stop_told e stops

begun_told : (target : Target) (told : Option Told) (array : Option (List Block)) (values : Option (List (Values Block))) → BeginsBlank target told array → IfSome array (λ _. IsSome values) → IfSome told (λ _. IsSome values)
begun_told target None array values begins some = tt
begun_told target (Some t) array values begins some = rw begins at some

abbrev RanInBay : Target → (trace left : Option (List ℕ)) → (told new : Option Told) → Result Tally Fault → (old out : Option (List ℕ)) → Type 0
RanInBay target trace left told new ran old out =
    (array : Option (List Block)) × BeginsBlank target told array × (values : Option (List (Values Block))) × Stores told new values × Runs target trace left array ran old out values

module _ {D : Type 0} (state : D → State) where
  pub one_part : (told : Option Told) (n : ℕ) (parts : List D) → AreBlank state told (n ∷ []) parts → IsOnePart state n parts
  one_part told n [] blank = absurd blank
  one_part told n (part ∷ []) blank = (blank.0.sized, blank.0.quiet, zero_settled (state part).values n blank.0.zero)
  one_part told n (part ∷ next ∷ parts) blank = absurd blank.1

  one_long : (told : Option Told) (n : ℕ) (parts : List D) → AreBlank state told (n ∷ []) parts → length parts ≡ 1
  one_long told n [] blank = absurd blank
  one_long told n (part ∷ []) blank = refl
  one_long told n (part ∷ next ∷ parts) blank = absurd blank.1

  -- what was run on the part comes back
  pub ran_in_bay : (target : Target) (trace left : Option (List ℕ)) (told mid new : Option Told) (sizes places : List ℕ) (parts parts' : List D) (ran : Result Tally Fault) (old out : Option (List ℕ))
      → AreBlank state told (target.home ∷ []) parts → sizes_of state parts' ≡ sizes_of state parts → mid ≡ option_map (sent_out (codes "solo") sizes) told
      → new ≡ option_map (came_back (codes "solo") (blocks_of state parts') places) mid → RunsOnFirst state target trace left parts parts' ran old out → RanInBay target trace left told new ran old out
  ran_in_bay target trace left told mid new sizes places [] parts' ran old out blank same sent back runs = absurd blank
  ran_in_bay target trace left told mid new sizes places (part ∷ next ∷ parts) parts' ran old out blank same sent back runs = absurd blank.1
  ran_in_bay target trace left told mid new sizes places (part ∷ []) [] ran old out blank same sent back runs = absurd runs
  ran_in_bay target trace left told mid new sizes places (part ∷ []) (part' ∷ next ∷ parts') ran old out blank same sent back runs = absurd (cc same)
  ran_in_bay target trace left told mid new sizes places (part ∷ []) (part' ∷ []) ran old out blank same sent back runs =
      let begins : BeginsBlank target told (content_of (state part).values) = blank_begins target told (state part) blank.0 in
      let values = (state part').values in
      let some : IfSome told (λ _. IsSome values) = begun_told target told (content_of (state part).values) values begins (run_told target trace left (content_of (state part).values) old out values ran runs) in
      (content_of (state part).values, begins, values, stores told mid new sizes places values some sent back, runs)

-- ---- The part's fault

-- a bay's refusal isn't a failed call of the part
pub no_disk : (e : BayFault) → fault_of_bay e ≡ fault.Disk → ⊥
no_disk bay.Absent is = cc is
no_disk bay.Failed is = cc is
no_disk bay.NoMemory is = cc is
no_disk (bay.WrongLength bytes) is = cc is

module _ {D : Type 0} (state : D → State) where
  -- of one part the faulty places are none, or its own
  first_faulty : (n : ℕ) (parts : List D) → length parts ≡ 1 → faulty_from n state parts ≢ [] → faulty_from n state parts ≡ n ∷ []
  first_faulty n [] one some = absurd (cc one)
  first_faulty n (part ∷ next ∷ parts) one some = absurd (omega (arith, one))
  first_faulty n (part ∷ []) one some = at (nat_lt 0 (state part).faults) some
    where
      at : (t : Bool) → cond t (n ∷ []) [] ≢ [] → cond t (n ∷ []) [] ≡ n ∷ []
      at true has = refl
      at false has = absurd (has refl)

  pub came_faulty : (told mid new : Option Told) (sizes : List ℕ) (n : ℕ) (blocks : Option (List (Values Block))) (parts parts' : List D) → AreBlank state told (n ∷ []) parts
      → sizes_of state parts' ≡ sizes_of state parts → mid ≡ option_map (sent_out (codes "solo") sizes) told
      → new ≡ option_map (came_back (codes "solo") blocks (faulty_places state parts')) mid → faulty_places state parts' ≢ [] → PartCameBackFaulty told new
  came_faulty None mid new sizes n blocks parts parts' blank same sent back some = tt
  came_faulty (Some t) mid new sizes n blocks parts parts' blank same sent back some =
      let as_many : length parts' ≡ length parts = sym (length-map parts' (λ (part : D). (state part).size)) ∙ ap (λ (ns : List ℕ). length ns) same ∙ length-map parts (λ (part : D). (state part).size) in
      let one : length parts ≡ 1 = one_long state (Some t) n parts blank in
      rw (back, sent) (ap (λ (places : List ℕ). t.faulty ++ each_place (codes "solo") places) (first_faulty 0 parts' (as_many ∙ one) some))

left_by : (e : Fault) (old new : Option Told) (values : Option (List (Values Block))) (target : Target) (trace left : Option (List ℕ)) (array : Option (List Block)) (was now : Option (List ℕ))
    → StopsBy e target trace left array was now values → Stores old new values → LeavesBy e old new values
left_by fault.Bay old new values target trace left array was now stops there = absurd stops
left_by fault.NoMemory old new values target trace left array was now stops there = inr there
left_by fault.Disk old new values target trace left array was now stops there = there
left_by fault.Sink old new values target trace left array was now stops there = there
left_by fault.Source old new values target trace left array was now stops there = there
left_by fault.Spent old new values target trace left array was now stops there = there
left_by (fault.BadLine line why) old new values target trace left array was now stops there = there

leaves : {T : Type 0} (result : Result T Fault) (old new : Option Told) (values : Option (List (Values Block))) (was now : Option (List ℕ)) (text : List ℕ) → SumsUp result was now text → Stores old new values → LeavesImages result old new values
leaves (Ok x) old new values was now text sums there = there
leaves (Err fault.Bay) old new values was now text sums there = absurd sums
leaves (Err fault.NoMemory) old new values was now text sums there = inr there
leaves (Err fault.Disk) old new values was now text sums there = there
leaves (Err fault.Sink) old new values was now text sums there = there
leaves (Err fault.Source) old new values was now text sums there = there
leaves (Err fault.Spent) old new values was now text sums there = there
leaves (Err (fault.BadLine line why)) old new values was now text sums there = there

pub ends_summed : {T : Type 0} (target : Target) (trace left : Option (List ℕ)) (told new : Option Told) (tally : Tally) (result : Result T Fault) (old mid out : Option (List ℕ))
    → RanInBay target trace left told new (Ok tally) old mid → SumsUp result mid out (summary_text tally) → RunsInBay target trace left told new result old out
ends_summed target trace left told new tally result old mid out (array, begins, values, left_there, runs) sums =
    (array, begins, values, leaves result told new values mid out (summary_text tally) sums left_there, summed target trace left array tally result old mid out values runs sums)

pub ends_stopped : (T : Type 0) (target : Target) (trace left : Option (List ℕ)) (told new : Option Told) (e : Fault) (old out : Option (List ℕ)) → RanInBay target trace left told new (Err e) old out → RunsInBay {T = T} target trace left told new (Err e) old out
ends_stopped T target trace left told new e old out (array, begins, values, left_there, runs) = (array, begins, values, left_by e told new values target trace left array old out runs left_there, stopped e target trace left array old out values runs)

-- parts that were lent as a slice
pub written_back : {D : Type 0} (state : D → State) (n : ℕ) (parts lent parts' : List D) → lent ≡ parts → n ≡ length parts → sizes_of state parts' ≡ sizes_of state lent → take n (parts' ++ drop (length parts') parts) ≡ parts'
written_back {D} state n parts lent parts' is count same =
    let as_many : length parts' ≡ length lent = sym (length-map parts' (λ (part : D). (state part).size)) ∙ ap (λ (sizes : List ℕ). length sizes) same ∙ length-map lent (λ (part : D). (state part).size) in
    let all : length parts' ≡ length parts = as_many ∙ ap (λ (ps : List D). length ps) is in
    let none : drop (length parts') parts ≡ [] = drop_all (length parts') parts (omega (arith, all)) in
    rw (none, append-nil) (take_all n parts' (omega (arith, all, count)))

-- ---- The image wasn't made

ends_early : (e : BayFault) (target : Target) (trace : Option (List ℕ)) (array : Option (List Block)) (old : Option (List ℕ)) → EndsBy (fault_of_bay e) target trace trace array old old None
ends_early bay.NoMemory target trace array old = inl (refl, refl, keeps_same old)
ends_early bay.Absent target trace array old = (refl, refl, keeps_same old)
ends_early bay.Failed target trace array old = (refl, refl, keeps_same old)
ends_early (bay.WrongLength bytes) target trace array old = (refl, refl, keeps_same old)

not_there : (e : BayFault) (old new : Option Told) → new ≡ old → LeavesBy (fault_of_bay e) old new None
not_there bay.NoMemory old new same = inl (same, refl)
not_there bay.Absent old new same = (same, refl)
not_there bay.Failed old new same = (same, refl)
not_there (bay.WrongLength bytes) old new same = (same, refl)

pub not_made : (T : Type 0) (e : BayFault) (target : Target) (trace : Option (List ℕ)) (told new : Option Told) (old : Option (List ℕ)) → new ≡ told → RunsInBay {T = T} target trace trace told new (Err (fault_of_bay e)) old old
not_made T e target trace None new old same = (None, tt, None, not_there e None new same, ends_early e target trace None old)
not_made T e target trace (Some t) new old same = (Some (zeros target.home), refl, None, not_there e (Some t) new same, ends_early e target trace (Some (zeros target.home)) old)
