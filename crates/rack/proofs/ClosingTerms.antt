-- The terms of disks, images, logs, locks and volumes that these proofs are written in.
pub use Rattle.wol_disk.specs.Disk.{State, IsAmong, Block, Values, IsDisk, TellsContent, IsImageOf, only, reads, settled, IsImage, Rose}
pub use Rattle.wol_disk.proofs.Images.{image_reads}
pub use Rattle.wol_bay.specs.Bay.{BayState, Name, Told, at_name, IsOut, sent_out, Image, byte_length}
pub use Rattle.wol_bay.specs.Parts.{blocks_of, AreCut, faulty_from, faulty_places}
pub use Rattle.wol_model.specs.Blocks.{Write, after, block_of, overlaid}
pub use Rattle.wol_model.specs.Extents.{Extent, IsValid, marked, AreDistinct, covers_of, with_extents, Cover, newer_of, newest, CoversNothing}
pub use Rattle.wol_model.specs.Heads.{Shape, IsShape, Free, Owned, owned_block, SpellsView, free_block}
pub use Rattle.wol_model.specs.History.{Operation, Broke, Wrote, Read, Kept, worker, helper, keeper, flight_of, flight_from, writes, written_by, IsCut, whole, torn}
pub use Rattle.wol_model.specs.Images.{Images, image_of, image_size, segment_of, accepted, all_segments, home_in, segments_of, accepted_from, home_of, recovered_from, IsSoundSegment, IsSoundImage, AreSound, idle, log, NamesOthers}
pub use Rattle.wol_model.specs.Index.{AreRising, Indexed, Listed, listed_in}
pub use Rattle.wol_model.specs.Log.{Record, extent_of, IsIdle, IsLog, IsNamed}
pub use Rattle.wol_model.specs.Recovered.{read_log, extents_in, extents_of, recovered, read_records}
pub use Rattle.wol_model.proofs.ReadLogs.{log_from, log_read}
pub use Rattle.wol_model.proofs.Images.{idle_none}
pub use Rattle.wol_model.proofs.Spellings.{one_segment_head, one_view, one_log, one_label}
pub use Rattle.wol_promise.specs.Manager.{Held, IsEntryOf, IsFound, IsBacked, IsIndexOf, IsSorted, extents_held, SaysOwnerOrFree, AreInUse, HomePart, SegmentPart, IsPartOf, versions, PartName}
pub use Rattle.wol_promise.specs.Ruled.{entries_of, Noted, last_look, HasPassed}
pub use Rattle.wol_promise.specs.Policy.{Look}
pub use Rattle.wol_promise.specs.Stands.{IsHeldBy, IsSoundOf, LiesInHome}
pub use Rattle.wol_config.specs.declared.config.Config.{Config}
pub use Rattle.wol_config.specs.declared.config.VolumeConf.{VolumeConf}
pub use Rattle.turn_lock.specs.Passes.{lock_id, pass_number, pass_mine, AreWhole, IsPassAt}
pub use Rattle.turn_lock.specs.declared.lock.TurnLock.{TurnLock}
pub use Rattle.turn_lock.specs.declared.pass.PassOf.{PassOf}
pub use Rattle.spin_model.specs.Spun.{volume_of, state_of, disk_of}
pub use Rattle.spin_model.specs.declared.spun.Spun.{Spun}
pub use Rattle.spin_model.specs.declared.spindle.Spindle.{Spindle}
pub use Rattle.spin_model.specs.declared.spindle.SpindleBase.{SpindleBase}
pub use Rattle.logger_view.specs.Stored.{HasView}
pub use Rattle.seg_pool.specs.declared.base.PoolBase.{PoolBase}
pub use Rattle.seg_pool.specs.declared.pool.Pool.{Pool}
pub use Rattle.log_segment.specs.Segment.{part_of}
pub use Rattle.log_segment.specs.declared.free.FreeSegment.{FreeSegment}
pub use Rattle.log_segment.specs.Kept.{IsKeptOrIdle, IsFreeInAll}
pub use Rattle.logger.specs.Lanes.{IsHeld, logger_of, held_in, pool_of}
pub use Rattle.logger.specs.declared.lane.HeldSegment.{HeldSegment}
pub use Rattle.logger.specs.declared.lane.Lane.{Lane}
pub use Rattle.manager.specs.Seen.{Logs, AllHold, AllLanesHold, held_with, all_held, parts_of, down_of, seen, may_be}
pub use Rattle.manager.specs.Stands.{IsReadyLane, notes_of, Keeps, AreNamed, nones_at, nones_in, takes_in, takes_of}
pub use Rattle.manager.specs.declared.station.Station.{Station}
pub use Rattle.manager.specs.declared.base.ManagerBase.{ManagerBase}
pub use Rattle.manager.specs.declared.part.Part.{Part}
pub use Rattle.manager_recovery.specs.Left.{HasNothing, IsLeftOf}
pub use Rattle.manager_recovery.specs.Owned.{Head, records_of, records_in, heads_from, heads_of, heads_in, with_version, IsFault, LiesWithin, AreFirstTwins, owned_of, all_owned}
pub use Rattle.manager_recovery.specs.Opening.{AreInOrder, IsBefore}
pub use Rattle.volume_images.specs.Accepted.{head_place, IsImageFault, HasHead}
pub use Rattle.volume_images.specs.Formatted.{part_sizes}
pub use Rattle.volume_images.specs.Volumes.{shapes_of, shape_in, MayLeave, AreLeft, images_read, image_read}
pub use Rattle.volume_images.specs.Left.{IsTold}
pub use Rattle.rack_parts.specs.Foreign.{IsForeign, AreForeign}
pub use Rattle.rack_parts.specs.Parts.{HasBack, held_parts, IsTogether}
pub use Rattle.rack_parts.specs.declared.rack.VolumePasses.{VolumePasses}
pub use Rattle.rack.specs.Closes.{IsOfExtent, AreListedOf, IsUnbroken, IsQuiet, IsOnLogger, ComesFrom, from_here, from_pool, from_manager, IsLogOfStation, segments_out, recovered_out, LeavesOpen, is_kept_home, RecoversTo, IsClosedVolume, HasFaultyPart, LiesInView, SaysOwnerIn, LeavesNoLog, part_named, place_in, volume_in, AreClosedVolumes, HasFaultAt, HasFaultIn, IsFaultyPart, IsNamedHere, IsPartHere, IsLeftOfParts, has_station, AreLeftOfParts}
pub use Rattle.rack.specs.Opens.{RefusesVolume, HasFaulty, IsFaultAmong, HasNewFault, RefusesImage, BeganWith, HadSegmentBefore, WereThere, KeepsAllSound, fault_in_image, RefusesOpening, RefusesBay, AreRefused}
pub use Rattle.rack_parts.specs.Closing.{CanCloseStations, CanClosePool, CanClosePools, CanCloseSpindles, KeepsSpindles, RefillsAll, AreComplete, Closing, IsClosing, ClosesStations, home_here, IsStoredAs, KeepsButHome, KeepsOtherRows, LeavesNoneOut, without_all, GivesBack, IsComplete, HasFaultHere, IsClosedPool, entries_made}
pub use Rattle.rack_parts.specs.Racks.{IsClosable, AreKeepers, IsOpenBase, base_of_station, IsStation, KeepToViews, NamesVolumes, IsRack}
pub use Rattle.rack_parts.specs.Rests.{image_here, segment_here, pool_pass, spindle_pass, held_here, IsPart, IsImageRest, AreImageRests, AreLocks, OnlyAccess, IsRest, IsImageOut, list_of, IsRow, out_names, IsSegmentHere, away_with, indexes_here}
pub use Rattle.rack_parts.specs.declared.rack.ImageRest.{ImageRest}
pub use Rattle.rack_parts.specs.declared.rack.Rack.{Rack}
pub use Rattle.rack_parts.specs.declared.rack.Rest.{Rest}
pub use Rattle.rack_parts.specs.declared.volume_fault.VolumeFault.{VolumeFault}
pub use Rattle.rack_parts.specs.declared.volume_fault.VolumeFault.TheVariants.{Absent, WrongLength, Refused, LabelFault, BayFailed}
pub use Rattle.rack.specs.Owners.{recovered_but, blocks_of_segment, IsSegmentOf, IsLogOfOther, KeepsLog, KeepsLogs, HasNoLogIn, IsBegun, images_taken, HadRefused, RecoversSame, WasOpened, IsSegmentIn, IsOwnedIn, AreOwnedIn, IsOpeningOf}
pub use Rattle.rack.specs.Laws.{ReadsAreLeft, FollowsOn, OpensAgain, OpensCut, IsOfFailedCall, RefusesSound, OpensAllAgain}
