-- What serving a client ended with.
use Rattle.std.proofs.Common.{◌≡◌, ◌<◌, inl, inr, ℕ, Bool, List, Option, Result, Ok, Err, sym, ap, subst, ◌∙◌, arith}
use Rattle.wol_disk.specs.Disk.{Rose, State}
use Rattle.wol_bay.specs.Bay.{BayState}
use Rattle.wol_config.specs.declared.config.Config.{Config}
use Rattle.report.specs.Faults.{status_of}
use Rattle.report.specs.declared.fault.Fault.{Fault}
use Rattle.report.specs.declared.fault.Fault.TheVariants.{Volume}
use Rattle.rack.specs.Troubles.{trouble_of}
use Rattle.replay.proofs.Statuses.{not_sink}
use Rattle.nbd_session.specs.Sessions.{CountsFaults, HasServed, IsSession}
use Rattle.nbd_session.specs.Sessions as session
use Rattle.nbd_session.specs.Turns.{Turn}
use Rattle.nbd_session.specs.declared.session.Ended.{Ended}
use Rattle.nbd_session.specs.declared.session.Ended.TheVariants as ended
use Rattle.nbd_session.specs.declared.session.NbdFault.{NbdFault}
use Rattle.nbd_session.specs.declared.session.NbdFault.TheVariants as nbd_fault
use Rattle.nbd_serving.specs.Runs.{Completes, ServesNamed, ServesOpen}
use Rattle.nbd_serving.specs.Runs as nbd_case
use Rattle.nbd_serving.specs.Wires.{Wire, answer_of, status_of as status_of_answer, unagreed_status}
use Rattle.nbd_serving.specs.Racks.{Begins}
use Rattle.nbd_serving.specs.declared.serving.Beginning.{Beginning}
use Rattle.nbd_serving.specs.declared.serving.Beginning.TheVariants as beginning
use Rattle.nbd_serving.proofs.Begun.{calm_begun, counts_behind, faults_begun}
use Rattle.nbd_session.specs.declared.ending.Shaken.{Shaken}
use Rattle.nbd_session.specs.declared.ending.Shaken.TheVariants.{Agreed, Unagreed as NotAgreed}
use Rattle.nbd_session.specs.declared.ending.Unagreed.{Unagreed}
use Rattle.nbd_session.specs.declared.ending.Unagreed.TheVariants as unagreed
use Rattle.nbd_serving.specs.declared.stop.Stop.{Stop}
use Rattle.nbd_serving.specs.declared.stop.Stop.TheVariants as stop
use Rattle.wol_run.specs.Serving.{AreRequests, EndsAtClient, HasBadBytes, HasBadRequests}
use Rattle.wol_run.specs.Serving as serving
use Rattle.wol_run.specs.Settings.{IsConfigured, IsUnread, line_of_fault}
use Rattle.wol_run.specs.Tops.{IsDoneOrMemory}
use Rattle.wol_run.proofs.Complete.{no_both}
use Rattle.wol_run.proofs.Unread.{ends_unread, line_unread}

-- ---- Bytes that are no requests

module _ {V : Type 0} {turned : Turn → V → V → Type 0} {home most : ℕ} {v : V} where
  -- requests that were served are whole ones
  are_requests : (n : ℕ) (taken replies : List ℕ) (w : V) → HasServed turned home most v n taken replies w → AreRequests taken
  are_requests n taken replies w session.none = serving.none
  are_requests n taken replies w (session.next k before out m x h given bytes answer served request goes serves) = serving.next before bytes given h (are_requests k before out m served) request goes

  pub bad_magic : {w : V} {left left' taken taken' : Option (List ℕ)} {at : ℕ} → IsSession turned home most v w left left' taken taken' (Ok (ended.BadMagic at)) → HasBadRequests left left'
  bad_magic s = record { requests = s.bytes; whole = are_requests _ _ _ _ s.served; last = s.last; took = s.took; bad = inl (s.ends.0.1, s.ends.0.3) }

  pub cut_request : {w : V} {left left' taken taken' : Option (List ℕ)} {at : ℕ} → IsSession turned home most v w left left' taken taken' (Ok (ended.Cut at)) → HasBadRequests left left'
  cut_request s = record { requests = s.bytes; whole = are_requests _ _ _ _ s.served; last = s.last; took = s.took; bad = inr (s.ends.0.1, s.ends.1) }

-- ---- What came before a session

-- a fault is counted whatever else there might have been
pub fault_of_any : (S T : Type 0) (a b d e : ℕ) (f : NbdFault) → CountsFaults {T = S} a b d e (Err f) → CountsFaults {T = T} a b d e (Err f)
fault_of_any S T a b d e nbd_fault.Source counts = counts
fault_of_any S T a b d e nbd_fault.Sink counts = counts
fault_of_any S T a b d e nbd_fault.NoMemory counts = counts

-- requests that are none, behind what came before them
pub bad_behind : (config : Config) (volume : ℕ) (b : Beginning) (from begun to : Wire) → Begins config volume b from begun (Ok Agreed) → HasBadRequests begun.left to.left → HasBadBytes b from.left to.left
bad_behind config volume beginning.AtOnce from begun to (is, same) bad = let P : Wire → Type 0 = λ (w : Wire). HasBadRequests w.left to.left in subst P same bad
bad_behind config volume beginning.Handshake from begun to h bad = serving.no_requests h.conf.name h.conf.home begun.left from.taken begun.taken h.shake bad

-- a handshake that wasn't agreed on
pub bad_handshake : (config : Config) (volume : ℕ) (b : Beginning) (from to : Wire) (why : Unagreed) → Begins config volume b from to (Ok (NotAgreed why)) → unagreed_status why ≡ 14 → HasBadBytes b from.left to.left
bad_handshake config volume beginning.AtOnce from to why (is, same) bad = absurd (cc)
bad_handshake config volume beginning.Handshake from to why h bad = serving.no_handshake h.conf.name h.conf.home from.taken to.taken why h.shake bad

-- ---- A configuration that wasn't had

module _ (left : Option (List ℕ)) (faults faults' status : ℕ) (e : Fault) (cause : IsUnread e left faults faults') (same : status ≡ status_of e) where
  pub unserved_complete : IsConfigured left → ¬ Rose faults faults' → IsDoneOrMemory status
  unserved_complete is calm = elim (ends_unread left faults faults' (line_of_fault e) (status_of e) (line_unread e left faults faults' cause)) [
    | inl (two, none) ↦ absurd (no_both left is none)
    | inr (inl (eight, rose)) ↦ absurd (calm rose)
    | inr (inr nine) ↦ inr (same ∙ nine)
  ]

  pub unserved_not_sink : status ≡ 7 → ⊥
  unserved_not_sink seven = not_sink e (sym same ∙ seven)

-- ---- The end of a session

-- a session that comes to its end
pub ends_at_client : (r : Result Ended Stop) (status : ℕ) → status ≡ status_of_answer r → Completes r → EndsAtClient status
ends_at_client (Ok ended.Disc) status same done = inl (inl same)
ends_at_client (Ok ended.End) status same done = inl (inl same)
ends_at_client (Ok (ended.BadMagic at)) status same done = inr (inl same)
ends_at_client (Ok (ended.Cut at)) status same done = inr (inl same)
ends_at_client (Err stop.Unknown) status same done = inr (inr same)
ends_at_client (Err (stop.Fault f)) status same done = inl (inr (same ∙ ap status_of done))
ends_at_client (Err (stop.Unagreed unagreed.Aborted)) status same done = inl (inl same)
ends_at_client (Err (stop.Unagreed unagreed.End)) status same done = inl (inl same)
ends_at_client (Err (stop.Unagreed unagreed.Cut)) status same done = inr (inl same)
ends_at_client (Err (stop.Unagreed unagreed.BadFlags)) status same done = inr (inl same)
ends_at_client (Err (stop.Unagreed unagreed.BadMagic)) status same done = inr (inl same)
ends_at_client (Err (stop.Unagreed unagreed.TooLong)) status same done = inr (inl same)
ends_at_client (Err (stop.Unagreed unagreed.TooMany)) status same done = inr (inl same)
ends_at_client (Err (stop.Unagreed unagreed.Unoffered)) status same done = inr (inl same)
ends_at_client (Err stop.Source) status same done = absurd done
ends_at_client (Err stop.Sink) status same done = absurd done

not_seven : (why : Unagreed) → unagreed_status why ≡ 7 → ⊥
not_seven unagreed.Aborted is = absurd (omega (arith, is))
not_seven unagreed.End is = absurd (omega (arith, is))
not_seven unagreed.Cut is = absurd (omega (arith, is))
not_seven unagreed.BadFlags is = absurd (omega (arith, is))
not_seven unagreed.BadMagic is = absurd (omega (arith, is))
not_seven unagreed.TooLong is = absurd (omega (arith, is))
not_seven unagreed.TooMany is = absurd (omega (arith, is))
not_seven unagreed.Unoffered is = absurd (omega (arith, is))

module _ (source source' sink sink' status : ℕ) where
  -- the status of a session tells whether the sink failed in it, or before it
  counts_seven : (answer : Result Ended NbdFault) → CountsFaults source source' sink sink' answer → status ≡ status_of_answer (answer_of answer) → status ≡ 7 → Rose sink sink'
  counts_seven (Ok ended.Disc) counts same seven = absurd (omega (arith, same, seven))
  counts_seven (Ok ended.End) counts same seven = absurd (omega (arith, same, seven))
  counts_seven (Ok (ended.BadMagic at)) counts same seven = absurd (omega (arith, same, seven))
  counts_seven (Ok (ended.Cut at)) counts same seven = absurd (omega (arith, same, seven))
  counts_seven (Err nbd_fault.Source) counts same seven = absurd (omega (arith, same, seven))
  counts_seven (Err nbd_fault.Sink) counts same seven = counts.1
  counts_seven (Err nbd_fault.NoMemory) counts same seven = absurd (omega (arith, same, seven))

  counts_told : (answer : Result Ended NbdFault) → CountsFaults source source' sink sink' answer → status ≡ status_of_answer (answer_of answer) → sink < sink' → status ≡ 7
  counts_told (Ok e) counts same less = absurd (let calm = counts.1 in omega (arith, calm, less))
  counts_told (Err nbd_fault.Source) counts same less = absurd (let calm = counts.1 in omega (arith, calm, less))
  counts_told (Err nbd_fault.Sink) counts same less = same
  counts_told (Err nbd_fault.NoMemory) counts same less = absurd (let calm = counts.1 in omega (arith, calm, less))

module _ {D : Type 0} (tells : Bool) (state : D → State) (config : Config) (begins : Beginning) (name : List ℕ) (old new : BayState) (wire wire' : Wire) (status : ℕ) where
  abbrev Counts : Result Ended NbdFault → Type 0
  Counts answer = CountsFaults wire.source_faults wire'.source_faults wire.sink_faults wire'.sink_faults answer

  of_unbegun : (volume : ℕ) (f : NbdFault) → Begins config volume begins wire wire' (Err f) → Counts (Err f)
  of_unbegun volume f begins_ = fault_of_any Shaken Ended wire.source_faults wire'.source_faults wire.sink_faults wire'.sink_faults f (faults_begun config volume begins wire wire' f begins_)

  of_served : (volume : ℕ) (begun : Wire) (answer : Result Ended NbdFault) → Begins config volume begins wire begun (Ok Agreed) → ServesOpen tells config volume old new begun wire' answer → Counts answer
  of_served volume begun answer begins_ serves = counts_behind config volume begins wire begun wire' answer begins_ serves.faults

  pub seven_of_sink : (r : Result Ended Stop) → ServesNamed tells state config begins name old new wire wire' r → status ≡ status_of_answer r → status ≡ 7 → Rose wire.sink_faults wire'.sink_faults
  seven_of_sink r (nbd_case.unknown none bay same_wire) same seven = absurd (omega (arith, same, seven))
  seven_of_sink r (nbd_case.no_memory volume is_named leaves same_wire) same seven = absurd (omega (arith, same, seven))
  seven_of_sink r (nbd_case.closed volume k f is_named first leaves same_wire) same seven = absurd (not_sink (Volume k (trouble_of f)) (sym same ∙ seven))
  seven_of_sink r (nbd_case.unagreed volume why is_named begins_ leaves) same seven = absurd (not_seven why (sym same ∙ seven))
  seven_of_sink r (nbd_case.unbegun volume f is_named begins_ leaves) same seven = counts_seven wire.source_faults wire'.source_faults wire.sink_faults wire'.sink_faults status (Err f) (of_unbegun volume f begins_) same seven
  seven_of_sink r (nbd_case.served volume begun answer is_named begins_ serves) same seven = counts_seven wire.source_faults wire'.source_faults wire.sink_faults wire'.sink_faults status answer (of_served volume begun answer begins_ serves) same seven

  same_sink : wire' ≡ wire → wire.sink_faults < wire'.sink_faults → ⊥
  same_sink same_wire less = let same : wire'.sink_faults ≡ wire.sink_faults = ap (λ (w : Wire). w.sink_faults) same_wire in absurd (omega (arith, same, less))

  pub sink_told : (r : Result Ended Stop) → ServesNamed tells state config begins name old new wire wire' r → status ≡ status_of_answer r → wire.sink_faults < wire'.sink_faults → status ≡ 7
  sink_told r (nbd_case.unknown none bay same_wire) same less = absurd (same_sink same_wire less)
  sink_told r (nbd_case.no_memory volume is_named leaves same_wire) same less = absurd (same_sink same_wire less)
  sink_told r (nbd_case.closed volume k f is_named first leaves same_wire) same less = absurd (same_sink same_wire less)
  sink_told r (nbd_case.unagreed volume why is_named begins_ leaves) same less = absurd (let calm = (calm_begun config volume begins wire wire' (NotAgreed why) begins_).1 in omega (arith, calm, less))
  sink_told r (nbd_case.unbegun volume f is_named begins_ leaves) same less = counts_told wire.source_faults wire'.source_faults wire.sink_faults wire'.sink_faults status (Err f) (of_unbegun volume f begins_) same less
  sink_told r (nbd_case.served volume begun answer is_named begins_ serves) same less = counts_told wire.source_faults wire'.source_faults wire.sink_faults wire'.sink_faults status answer (of_served volume begun answer begins_ serves) same less
