-- The terms of disks, images, logs, locks and volumes that these proofs are written in.
pub use Rattle.rack.proofs.ClosingTerms.{image_reads, State, Block, TellsContent, IsImageOf, Rose, Values, IsDisk, reads, IsImage, AreCut, blocks_of, one_segment_head, Images, image_of, image_size}
pub use Rattle.rack.proofs.ClosingTerms.{home_of, segment_of, recovered_from, IsSoundSegment, AreSound, Record, IsLog, IsIdle, Config, VolumeConf, TurnLock, PassOf, state_of, volume_of, disk_of}
pub use Rattle.rack.proofs.ClosingTerms.{Spindle, SpindleBase, Spun, HasView, PoolBase, Pool, FreeSegment, HeldSegment, Lane, ManagerBase, Part, Station, part_sizes, IsTold, IsComplete, KeepsButHome}
pub use Rattle.rack.proofs.ClosingTerms.{home_here, GivesBack, LeavesNoneOut, IsForeign, AreForeign, ImageRest, Rack, Rest, VolumeFault, Absent, WrongLength, Refused, LabelFault, BayFailed}
pub use Rattle.wol_disk.proofs.Calls.{now_leaves}
pub use Rattle.wol_bay.specs.Bay.{BayState, Name, Told, at_name, Image, each_place, outs, sent_out, IsHome, IsOut}
pub use Rattle.wol_bay.specs.Refusals.{refusal, refusal_of, blocks_at}
pub use Rattle.wol_bay.specs.declared.fault.BayFault.{BayFault}
pub use Rattle.wol_model.specs.Blocks.{AreApart}
pub use Rattle.wol_model.specs.Heads.{owned_block, free_block, SpellsSegment, Shape, IsShape}
pub use Rattle.wol_promise.specs.Manager.{SaysOwnerOrFree, Base}
pub use Rattle.wol_config.specs.Configs.{IsValid}
pub use Rattle.turn_lock.specs.Histories.{Entry}
pub use Rattle.turn_lock.specs.Passes.{IsNewPass, IsSamePass, pass_lock, pass_number, pass_mine, lock_id, pass_seen, IsPassOf, IsFree, lock_passes, IsPassAt}
pub use Rattle.log_layout.specs.Values.{shape_of, segment_head}
pub use Rattle.log_layout.specs.declared.segment.SegHead.{SegHead}
pub use Rattle.log_layout.specs.declared.segment.SegHead.TheVariants.{Free, Owned}
pub use Rattle.spin_model.specs.Operations.{has_token, operation_of}
pub use Rattle.seg_pool.specs.Holders.{Gave, holder, is_held_by}
pub use Rattle.seg_pool.specs.Operations.{holds}
pub use Rattle.log_segment.specs.Segment.{free_disk, part_of}
pub use Rattle.logger.specs.Lanes.{logger_of, pool_of, IsLane, taken_in, IsAt, spindle_of, segments_in, pool_blocks, AreAccesses, IsHeld, IsSameLane, held_in}
pub use Rattle.logger.specs.declared.shared.Shared.{Shared}
pub use Rattle.manager.specs.Stands.{AreNamed, IsLaneShared, takes_in, Stands, notes_of}
pub use Rattle.manager.specs.declared.manager.Manager.{Manager}
pub use Rattle.manager.specs.declared.part.Part.TheVariants.{Home, Segment}
pub use Rattle.manager_recovery.specs.Left.{Fate, Kept, Freed, IsFateOf, AreFates, HasGiven, freed_on, kept_of, IsHandedBack, IsUsedLane, IsSameOwned}
pub use Rattle.manager_recovery.specs.Opened.{Opens, IsInLane, CountsTakes, Begins, StandsInOwned, base_at_opening}
pub use Rattle.manager_recovery.specs.Opening.{place_of, CanOpen, AreInOrder, IsBefore, IsOpeningLane, IsHeldIn, IsOwned, SaysOwner, HoldsOwned}
pub use Rattle.manager_recovery.specs.Owned.{read_of, owned_of, all_owned, IsListedOf, records_in, writes_in, heads_in, recovered_of, AreIntact, HaveNoTwins}
pub use Rattle.manager_recovery.specs.Refused.{IsNamesAnswer, is_named, Refuses, HandsBackAll, IsRecoverable}
pub use Rattle.manager_recovery.specs.declared.opening.Opening.{Opening}
pub use Rattle.manager_recovery.specs.declared.opening.OwnedPart.{OwnedPart}
pub use Rattle.manager_recovery.specs.declared.refusal.OpenRefusal.{OpenRefusal}
pub use Rattle.manager_recovery.specs.declared.refusal.OpenRefusal.TheVariants.{LabelDiffers, LoggerMissing, OutsideView, Damaged, Twins, DiskFault, NoMemory}
pub use Rattle.volume_images.specs.Accepted.{HasHead, head_place, IsAccepted, IsImageFault}
pub use Rattle.volume_images.specs.Refusals.{IsCutOpenable, SaysSo, GaveBack, IsCallFault, IsFaultAt}
pub use Rattle.volume_images.specs.Volumes.{shape_in, shapes_of, image_read, images_read, MayLeave, NoneOut, AreLeft}
pub use Rattle.volume_images.specs.declared.reading.ImageFault.{ImageFault}
pub use Rattle.rack.specs.Closes.{AreLeftOfParts, HasFaultAt, IsNamedHere, has_station, is_kept_home, flight_in, IsQuiet, LeavesVolumes, CameBackFaulty, HasFaultIn, HasFaultyPart, IsPartHere, ListsFaulty, part_named, place_in}
pub use Rattle.rack.specs.Locked.{IsLocked, IsUnopened}
pub use Rattle.rack.specs.Making.{AreNewImages, PushesImage, AreEmptyPasses, last_of, ArePopped, AreEmptied, CanDeal, Deals, AreLists, PutsSpindles, PutsPools, IsSetUp, image_by}
pub use Rattle.rack.specs.Opening.{said_at, view_at, fault_at, IsSaidOf, AreTried, IsOpeningRack, IsRefused, WasAtEntry, AreAsked, StayedAs, IsNextOpened, IsNextRefused, HasBegun, AreRefusedBelow, HaveFaults, SaysOf, AreStillCut, HaveHeads, IsCutOf, AreCutOf, AreOwnersHere, IsStopped, HasFaultOf, StayedSo, HasSentOut, IsBackAtOnce, HasAllBack, LeavesNoMore, AreSameOut, IsTaken}
pub use Rattle.rack.specs.declared.lists.Lists.{Lists}
pub use Rattle.rack.specs.Opens.{HasFaulty, RefusesVolume, RefusesImage, AreRefused, HadBefore, HadSegmentBefore, IsGone, IsAsRead, fault_in_image, fault_of_image, IsFaultAmong, HasNewFault, IsLeftHere, BeganWith, KeepsOthers, AreViewsAsRead, WasAccepted, WereThere, LeavesAll, KeepsAllSound, IsThere}
pub use Rattle.rack.specs.Owners.{images_taken, IsOwnedIn, IsOpeningOf, BeganInPlace, IsBegun, AreOwnedIn, HadRefused, RecoversSame}
pub use Rattle.rack_parts.specs.Locks.{IsInOrder, AreSettled, AreSpindlesOf, IsWholeLock}
pub use Rattle.rack_parts.specs.Parts.{TakesOpening, IsOwnedPlace, loggers_out, IsNewLane, IsBarePlace, CanPutLanes, IsOwedPlace, CanPutOwned, HasPlace, segments_of, IsUsablePlace, CanTake, segment_in, IsTakenOf, holder_by, IsHomeAway, IsSameBut, with_home, IsLaidOut, PutsOpening, IsSameRest, PutsManager, IsTogether, HasBack, of_head, IsIssuedPool, TakesFree, Supplies, in_image, CanIssue, Restores, IsRestored}
pub use Rattle.wol_model.specs.Index.{AreRising}
pub use Rattle.rack_parts.specs.Racks.{AreOut, IsOpenBase, base_of_station, IsStation, IsUnused, IsClosable, KeepToViews, IsRack, NamesVolumes, AreKeepers, AreUnused}
pub use Rattle.rack_parts.specs.Rests.{image_here, IsImageOut, Away, IsRestBut, segment_here, held_here, away_with, AreRooms, IsRow, list_of, pool_pass, spindle_pass, IsPart, IsSpindleLock, IsImageRest, IsSegmentHere, indexes_here, AreImageRests, IsHolding, IsHeldHere, OnlyAccess, out_names, IsPoolLock, ArePoolPasses, AreSpindlePasses, AreHandedBack, ArePlaced, AreLocks, IsRest}
pub use Rattle.rack_parts.specs.declared.heads_said.Said.{Said}
pub use Rattle.rack_parts.specs.declared.locks.Issued.{Issued}
pub use Rattle.rack_parts.specs.declared.rack.Rooms.{Rooms}
