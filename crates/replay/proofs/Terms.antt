-- The terms of disks, images, logs, locks and volumes that these proofs are written in.
pub use Rattle.wol_disk.specs.Disk.{Rose, State, Block}
pub use Rattle.wol_bay.specs.Bay.{BayState, Told, Image, at_name, outs}
pub use Rattle.wol_model.specs.ArrayLaws.{unversioned}
pub use Rattle.wol_model.specs.Blocks.{Write, after}
pub use Rattle.wol_model.specs.History.{helper, keeper, worker, Operation, Wrote, Read, Kept, Broke, flight_from, flight_of, written_by, writes, IsHelp, IsCut, whole, in_flight, AreLegalNext, BreaksOnce}
pub use Rattle.wol_model.specs.Images.{AreSound, Images, all_segments, recovered_from}
pub use Rattle.wol_model.specs.Journal.{Began, new_spindle, Done, Needed, SpindleState, Started, Stayed, Use, spindle_after, used, needs_after}
pub use Rattle.wol_model.specs.Trace.{requests, Target, TraceLine, started, timed, windows, joins, pieces_of, ended, payload, payloads, write_to, home_of, Timed, joined, opened, windows_by, windows_from, Numbered, numbered_from, pieces, requests_of, requests_on, volume_of, is_write}
pub use Rattle.wol_model.specs.declared.trace.Kind.{Kind}
pub use Rattle.wol_promise.proofs.ReadCode.{noted_is_back}
pub use Rattle.wol_promise.specs.Code.{noted_of}
pub use Rattle.wol_promise.specs.Outcomes.{Answered, AreOutcomes, answered_in, of_volume, Unanswered, WasRead, WasWritten, is_answered, AreWritten, IsWriteOf, mark_in}
pub use Rattle.wol_promise.specs.Policy.{Look, AreWrites, placed, place_of, version_at, IsIdleLook, PartName}
pub use Rattle.wol_promise.specs.Report.{logged_writes, by_worker, drains, is_drained_write, HasNoHelp, LeavesIdle, AreGone, blocks_put_home, put_home_by, home_writes}
pub use Rattle.wol_promise.specs.Ruled.{Noted, AreRuled, IsStep, entries_of, last_look, IsDrained}
pub use Rattle.wol_promise.specs.Run.{joined_lines, KeepsSound, read_text}
pub use Rattle.wol_promise.specs.Spindle.{keeper_uses}
pub use Rattle.wol_promise.specs.Stands.{HasHistory}
pub use Rattle.wol_config.specs.Configs.{most_of, IsValid}
pub use Rattle.wol_config.specs.declared.config.Config.{Config}
pub use Rattle.wol_config.specs.declared.config.VolumeConf.{VolumeConf}
pub use Rattle.turn_lock.specs.Histories.{Begins, Entry, own}
pub use Rattle.turn_lock.specs.Passes.{pass_mine, pass_number, pass_seen, IsFree, IsPartOf, lock_id, pass_lock, IsSamePass, lock_passes, IsPassOf}
pub use Rattle.spin_model.specs.Operations.{uses_of, operation_of, use_of, has_token}
pub use Rattle.spin_model.specs.Spindles.{SpindleView, state_after, StandsFor}
pub use Rattle.spin_model.specs.declared.spindle.Spindle.{Spindle}
pub use Rattle.spin_model.specs.declared.spindle.SpindleBase.{SpindleBase}
pub use Rattle.logger.specs.declared.shared.Shared.{Shared}
pub use Rattle.manager.specs.Stands.{notes_of, IsShared}
pub use Rattle.manager.specs.declared.base.ManagerBase.{ManagerBase}
pub use Rattle.manager.specs.declared.part.Part.{Part}
pub use Rattle.manager.specs.declared.part.Place.{Place}
pub use Rattle.manager.specs.declared.part.StepFault.{StepFault}
pub use Rattle.manager.specs.declared.station.Station.{Station}
pub use Rattle.volume_images.specs.Left.{IsTold}
pub use Rattle.volume_images.specs.Volumes.{shapes_of, shape_in, images_read, AreLeft, NoneOut}
pub use Rattle.rack_parts.specs.declared.rack.ImageRest.{ImageRest}
pub use Rattle.rack_parts.specs.declared.rack.Rack.{Rack}
pub use Rattle.rack_parts.specs.declared.rack.Rest.{Rest}
pub use Rattle.rack_parts.specs.declared.volume_fault.VolumeFault.{VolumeFault}
pub use Rattle.rack.specs.Closes.{CameBackFaulty, HasFaultyPart, IsClosedVolume, RecoversTo, IsClosedSpindle, SharePools, HasFaultIn, AreClosedVolumes, AreLeftOfParts, HasFaultAt, IsQuiet, LeavesUnopened, LeavesVolumes, ListsFaulty, AreListedOf, IsOnLogger, recovered_out, segments_out, flight_in, has_station, is_kept_home, part_named}
pub use Rattle.rack.specs.Opens.{KeepsAllSound, KeepsViews, LeavesFronts, BeganWith, HadSegmentBefore, IsGone, IsLeftHere, WereThere, HasFaulty, AreRefused, LeavesAll, RefusesVolume}
pub use Rattle.rack.specs.Owners.{BeganInPlace, HadRefused, IsBegun, images_taken}
pub use Rattle.rack.specs.PoolUses.{ArePools, PassesEmpty, TakesFew}
pub use Rattle.wol_model.specs.Index.{AreRising}
pub use Rattle.rack.specs.Racks.{AreUnused, IsUnused, base_of_station, IsClosable, IsRack, KeepToViews, AreOut, IsOpenBase}
pub use Rattle.rack.specs.Rests.{IsImageOut, IsSegmentHere, held_here, image_here, spindle_pass, AreLocks, IsRest, OnlyAccess, out_names}
pub use Rattle.errands.specs.declared.ends.Errands.{Errands}
pub use Rattle.msr_trace.specs.Lines.{is_feed, trace_line}
pub use Rattle.msr_trace.specs.Reading.{Reading, IsDone, RefusesLine, pending, is_no_memory}
pub use Rattle.msr_trace.specs.declared.format.TraceFault.{TraceFault}
pub use Rattle.rack.proofs.AllOut.{accepted_all, recovered_all, taken_all}
pub use Rattle.rack.proofs.FirstClosed.{none_closed}
pub use Rattle.rack.proofs.OpenedKept.{opened_out}
pub use Rattle.rack.specs.NotOpened.{first_closed}
pub use Rattle.replay.specs.Completes.{Completes, MayComplete, writes_to}
pub use Rattle.replay.specs.Counts.{was_drained, most_count, no_totals, was_logged, went_home, AddsAtMost, was_read, was_written, CountsWindow, CountsOutcomes}
pub use Rattle.replay.specs.Ended.{EndsFor, HasRefusedWrite, IsPartFault, memory, no_line, refused, sink_failed}
pub use Rattle.replay.specs.Endings.{fault_of_outcome, fault_of_reclaim, fault_of_window, first_refused, lacked_memory, fault_of_read, fault_of_write}
pub use Rattle.replay.specs.Givens.{Refuses, HasGiven, HasGivenAll, RefusesTrace, IsLive, borrow_of, faults_of, given_count}
pub use Rattle.replay.specs.Headlined.{AreAllOpen, ArePrinted, HasFailed, HasNotBegun, KeepsHeadline, MeetsHeadline}
pub use Rattle.replay.specs.Histories.{answers_in, History, is_broken_at, next_after, next_at, AreHistories, BeginAsRead, CountAnswered, view_at, is_broken, IsHistory, ArePlainMarks, LeavesReclaimed, line_of_read}
pub use Rattle.replay.specs.Leaves.{LeavesImages, records_in, written_array}
pub use Rattle.replay.specs.NotOpened.{LeavesBay, LeavesViews, AsksNone}
pub use Rattle.replay.specs.Placed.{CountsPlaced, CountsReclaimed}
pub use Rattle.replay.specs.Prints.{CutsLines, PrintsText, all_amounts, amounts_in, HandsOn, HasJournal, line_of_outcome, lines_of_outcomes}
pub use Rattle.replay.specs.Replays.{Replays, status_in, Replayed, ran}
pub use Rattle.replay.specs.Runs.{locks_of, RunsNone, ServesFrom, RunsIn, CanServe, closed, new_session, no_memory, served}
pub use Rattle.replay.specs.Served.{ServedFromStart, ServedWindow, WasNotRun, outcomes_in, WasServed, WereServed, Further, StartsOnce, begins_alone, fails_to_begin, is_none_served, none_further, AreSamePasses, HasStarted, HaveStarted, AreTotals}
pub use Rattle.replay.specs.Sessions.{WentWell, AreWindowsOf, EndsBy, RunsLines, ServesSome, ServesWhole, ServesWindows, at_end, lines_of_window, AreVolumes, IsSession, AreServedOf, Closes, EndsIn, EndsWithWindow, GoesOn, HasBegunWindow, HasFailedToBegin, HasServed, StopsAfter, StopsAtLine, TakesOn, at_refusal, lines_of_windows, opens, AreServedFrom, Finishes}
pub use Rattle.replay.specs.Stops.{fault_of_trace}
pub use Rattle.replay.specs.Summed.{HaveAccounts, HaveShortAccounts, IsAccountBy, IsSummaryOf, PrintsRun, column, lines_asked, of_all, of_none, started_uses, window_uses, IsAccount, IsSummary}
pub use Rattle.replay.specs.Works.{AreClosings, AreWorked, AreWorks, AreBegun, IsClosing, IsWork, DrainsAlone, KeepsRecords, LackedIn, WorksAs, by_keeper}
pub use Rattle.replay.specs.declared.counting.Counted.{Counted}
pub use Rattle.replay.specs.declared.given.Given.{Given}
pub use Rattle.replay.specs.declared.session.Options.{Options}
pub use Rattle.replay.specs.declared.session.Session.{Session}
pub use Rattle.replay.specs.declared.stop.Stop.{Stop}
pub use Rattle.report.specs.Faults.{status_of}
pub use Rattle.report.specs.Names.{printed_names}
pub use Rattle.report.specs.Summaries.{summary_text, units_of}
pub use Rattle.report.specs.declared.fault.Fault.{Fault}
pub use Rattle.report.specs.declared.fault.Fault.TheVariants.{Memory, TraceSource, Versions, Volume}
pub use Rattle.report.specs.declared.totals.Totals.{Totals}
pub use Rattle.report.specs.declared.trouble.Trouble.{Trouble}
pub use Rattle.request_turns.proofs.CountLaws.{AreOthersIdle, IsWhole, dropped_by_pass, home_by_pass, records_add_up}
pub use Rattle.request_turns.proofs.Gaining.{broken_more, down_breaks, last_joined, notes_joined, pass_kept, nothing_more, gains_turn, gains_both, gains_none, looks_so, stays_both, turn_more, down_more, kept_join}
pub use Rattle.request_turns.specs.Begun.{HasBegunVolume}
pub use Rattle.request_turns.specs.Causes.{OneLacked}
pub use Rattle.request_turns.specs.Closed.{HasClosed}
pub use Rattle.request_turns.specs.Counts.{added_between, added_up, dropped_by, records_dropped, Counts}
pub use Rattle.request_turns.specs.Entries.{AreEntriesOf, AreMade, IsGroupEntry, TellsFault, none, one, several, WasSpent, IsFlight, IsFlightAt, before_others, front_writes}
pub use Rattle.request_turns.specs.Helped.{ManagerLock, AreKept, made_since}
pub use Rattle.request_turns.specs.Turns.{ManagerPass, coded, IsBroken, faulty_part, IsHonest, began, notes_seen, Gains, LooksStay, HasTurned, WasDown, KeptStay}
pub use Rattle.request_turns.specs.declared.outcome.Outcome.{Outcome}
pub use Rattle.request_workers.proofs.Totals.{all_added, HaveGained, all_both, gained_honest, have_gained_both, window_gained}
pub use Rattle.request_workers.specs.Begun.{HaveBegun, SpindlePass, HasBegun, HaveBegunVolumes, AreKeepers}
pub use Rattle.request_workers.specs.Closed.{IsClosed}
pub use Rattle.request_workers.specs.Counted.{AreHonest, all_between}
pub use Rattle.request_workers.specs.Crews.{AreIdleSeats, AreWaiting, IsCrew}
pub use Rattle.request_workers.specs.Floors.{HasRun, AreSameButRoom, workers_of, IsFloor, IsOn, IsAsItWas, AreWhole, passes_of}
pub use Rattle.request_workers.specs.Helped.{AreAllKept, AreHelped}
pub use Rattle.request_workers.specs.Requests.{answers_to, outcomes_of, own_requests, told, StopsAtRefusal, AreOfVolumes}
pub use Rattle.request_workers.specs.Stations.{IsMoved, AreStations, AreMoved}
pub use Rattle.request_workers.specs.Worked.{HelpedIn, HasWorked, first_fault}
pub use Rattle.request_workers.specs.declared.job.Job.{Job}
pub use Rattle.run_laws.proofs.Cuts.{others_answer_nothing, cuts_are_plain}
pub use Rattle.run_laws.proofs.Joins.{firsts_join, outcomes_join}
pub use Rattle.run_laws.proofs.ReadLines.{length_mapped, volume_requests, volume_joined, all_of, lines_are_plain}
pub use Rattle.run_laws.specs.Answers.{answers_of, requests_in, AreFirst, answered_count, told_lines}
pub use Rattle.run_laws.specs.Headline.{IsOneAction, HasOneHistory, IsReopened}
pub use Rattle.run_laws.specs.Journals.{answers_by, answer_then, OthersAccess, uses_by}
pub use Rattle.run_laws.specs.Laws.{AreAllAnswered, AreAnsweredBy}
pub use Rattle.trace_gen.specs.Generated.{targets_of, Generator, line, target_of}
pub use Rattle.trace_windows.proofs.Counting.{windows_have_requests}
pub use Rattle.trace_windows.proofs.Numbering.{numbers_leave, length-numbered, numbered_both}
pub use Rattle.trace_windows.specs.Batches.{Batched, IsBatchOf}
pub use Rattle.trace_windows.specs.Cutting.{AreWindows, Cutting, HasCut, next_number}
pub use Rattle.trace_windows.specs.Requests.{asked, requests_in_all, IsInside, numbered}
pub use Rattle.trace_windows.specs.declared.request.Request.{Request}
pub use Rattle.rack.specs.Troubles.{trouble_of_part, trouble_of}
pub use Rattle.window_desks.specs.declared.desk.Desk.{Desk}
pub use Rattle.window_desks.specs.declared.floor.Floor.{Floor}
pub use Rattle.window_desks.specs.declared.request.Reclaim.{Reclaim}
pub use Rattle.window_desks.specs.declared.request.Window.{Window}
pub use Rattle.wol_io.proofs.Appending.{appends_none, keeps_same, appends_both, appends_kept, front_last, front_longer, front_whole}
pub use Rattle.wol_io.specs.Streams.{AppendsFront}
