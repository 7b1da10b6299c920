-- A run over a bay in whose way nothing stands comes to its end.
use Rattle.replay.proofs.Basics.{◌≡◌, ◌<◌, ◌+◌, ℕ, suc, Bool, List, [], ◌∷◌, length, refl, sym, subst, ◌∙◌, Option, None, Some, Result, Ok}
use Rattle.replay.proofs.Basics.{Err, arith, IfSome, IsTrue, slice_get}
use Rattle.replay.proofs.Terms.{Rose, State, BayState, Told, AreSound, Config, printed_names, summary_text, Memory, TraceSource}
use Rattle.replay.proofs.Terms.{SpindleView, images_read, shapes_of, HasFaultIn, IsClosedSpindle, Rack, VolumeFault, Completes, MayComplete}
use Rattle.replay.proofs.Terms.{PrintsText, all_amounts, first_closed, RunsIn, Counted, Given, Options, Stop}
use Rattle.replay.proofs.CauseServed.{rose_from}
use Rattle.replay.proofs.Completed.{completes_ran}
use Rattle.rack.proofs.Asking.{rose_on}
use Rattle.replay.proofs.RunAnswered.{HasClosedRack, HasOpened, served_err, served_ok}
use Rattle.replay.specs.declared.stop.Stop.TheVariants as stop

all_open : (n : ℕ) (faults : List (Option VolumeFault)) → ((k : ℕ) → k < length faults → slice_get faults k ≡ Some None) → first_closed n faults ≡ None
all_open n [] each = refl
all_open n (f ∷ faults) each =
    let first : f ≡ None = cc (each 0 (omega arith)) in
    subst (λ (x : Option VolumeFault). first_closed n (x ∷ faults) ≡ None) (sym first) (all_open (n + 1) faults (λ k lt. each (suc k) (omega (arith, lt))))

-- a summary that couldn't be printed is no fault of the source
pub not_source : {T : Type 0} (done : Result T Stop) (text : List ℕ) (faults faults' : ℕ) (printed new : Option (List ℕ)) → PrintsText done text faults faults' printed new → done ≡ Err (stop.Fault TraceSource) → ⊥
not_source (Ok x) text faults faults' printed new prints is = absurd (cc is)
not_source (Err stop.Sink) text faults faults' printed new prints is = absurd (cc is)
not_source (Err (stop.Fault f)) text faults faults' printed new (memory_is, calm, keeps) is = let source : f ≡ TraceSource = cc is in let no : Memory ≡ TraceSource = sym memory_is ∙ source in absurd (cc no)

module _ {D S : Type 0} (T : Type 0) (state : D → State) (tells : Bool) (left : S → Option (List ℕ)) (config : Config) (options : Options) (start now : Given S) (entry opened left_ : BayState) (r q : Rack D) (Q : Told → Told → Type 0)
    (o : HasOpened state tells config entry opened r) (c : HasClosedRack state tells config opened left_ q Q) (same_rest : q.rest ≡ r.rest) (faults faults' : ℕ) (printed printed' : Option (List ℕ)) (source source' : ℕ)
    (complete : IsTrue tells → IfSome entry.told (λ t. AreSound (shapes_of config) (images_read config t) → (HasFaultIn state r.rest → ⊥) → (Rose entry.faults opened.faults → ⊥)
    → (k : ℕ) → k < length (shapes_of config) → slice_get r.faults.items k ≡ Some None)) where
  each_open : {sink sink' : ℕ} → MayComplete tells left config start now entry left_ sink sink' source source' → first_closed 0 r.faults.items ≡ None
  each_open m =
      let each = subst (λ (x : Option Told). IfSome x (λ t. AreSound (shapes_of config) (images_read config t) → (HasFaultIn state r.rest → ⊥) → (Rose entry.faults opened.faults → ⊥)
      → (k : ℕ) → k < length (shapes_of config) → slice_get r.faults.items k ≡ Some None)) m.entry_is (complete m.telling) in
      all_open 0 r.faults.items (λ k lt. each m.sound
      (λ part. m.bay_calm (rose_from entry.faults opened.faults left_.faults o.counts (c.cause (subst (λ x. HasFaultIn state x) (sym same_rest) part))))
      (λ rose. m.bay_calm (rose_on entry.faults opened.faults left_.faults rose c.counts)) k (omega (arith, lt, o.is.fault_count)))

  pub complete_err : (result : Result Counted Stop) → RunsIn tells left config options start now r q faults faults' printed printed' result → (e : Stop) → result ≡ Err e
      → (e ≡ stop.Fault TraceSource → Rose source source') → MayComplete tells left config start now entry left_ faults faults' source source' → Completes {T = T} (Err e)
  complete_err result runs e is source_is m =
      completes_ran tells left config options start now entry left_ (Err e) faults faults' source source' printed printed'
      (served_err T state tells left config options start now entry opened left_ r q Q o c faults faults' printed printed' result runs e is (each_open m)) m (λ same. source_is (cc same))

  pub complete_ok : (result : Result Counted Stop) → RunsIn tells left config options start now r q faults faults' printed printed' result → (counted : Counted) → result ≡ Ok counted → (spindles : List SpindleView)
      → length spindles ≡ length (shapes_of config) → length spindles ≡ length config.volumes.items → ((k : ℕ) (s : SpindleView) → slice_get spindles k ≡ Some s → IsClosedSpindle q k s) → (done : Result T Stop) (faults'' : ℕ) (printed'' : Option (List ℕ))
      → PrintsText done (summary_text counted.totals (printed_names config.volumes.items) (all_amounts config.powers counted.started counted.ended spindles)) faults' faults'' printed' printed''
      → (done ≡ Err (stop.Fault TraceSource) → Rose source source') → MayComplete tells left config start now entry left_ faults faults'' source source' → Completes done
  complete_ok result runs counted is spindles sized each closed_ done faults'' printed'' prints source_is m =
      completes_ran tells left config options start now entry left_ done faults faults'' source source' printed printed''
      (served_ok T state tells left config options start now entry opened left_ r q Q o c faults faults' printed printed' result runs counted is spindles sized each closed_ done faults'' printed'' prints) m source_is
