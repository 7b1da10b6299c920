-- The terms of disks, images, logs, locks and volumes that these proofs are written in.
pub use Rattle.wol_disk.specs.Disk.{State, Block, Values, IsDisk, TellsContent, IsImage, IsImageOf, Rose}
pub use Rattle.wol_bay.specs.Bay.{Name, at_name, without, AreNamedApart, Image, Told, stored, each_place, came_back, BayState, outs, IsOut}
pub use Rattle.wol_bay.specs.Parts.{blocks_of, faulty_places, joined, sizes_of}
pub use Rattle.wol_model.specs.Blocks.{AreApart}
pub use Rattle.wol_model.specs.Heads.{Shape}
pub use Rattle.wol_config.specs.declared.config.Config.{Config}
pub use Rattle.wol_config.specs.declared.config.VolumeConf.{VolumeConf}
pub use Rattle.turn_lock.specs.Histories.{Entry, own}
pub use Rattle.turn_lock.specs.Passes.{IsPassOf, IsFree, pass_number, pass_mine, IsPartOf, AreWhole, lock_passes, AreNewPasses, lock_id, pass_lock, IsPassAt}
pub use Rattle.turn_lock.specs.declared.lock.TurnLock.{TurnLock}
pub use Rattle.turn_lock.specs.declared.pass.PassOf.{PassOf}
pub use Rattle.log_layout.specs.Values.{shape_of}
pub use Rattle.log_layout.specs.declared.segment.SegHead.{SegHead}
pub use Rattle.log_layout.specs.declared.segment.SegHead.TheVariants.{Free, Owned}
pub use Rattle.spin_model.specs.Operations.{has_token}
pub use Rattle.spin_model.specs.Spindles.{SpindleView}
pub use Rattle.spin_model.specs.declared.spindle.Spindle.{Spindle}
pub use Rattle.spin_model.specs.declared.spindle.SpindleBase.{SpindleBase}
pub use Rattle.spin_model.specs.declared.spun.Spun.{Spun}
pub use Rattle.seg_pool.specs.Holders.{holder, PoolUse, Took, Gave, pool_used, pool_after, MayUsePool, ArePoolUses, is_in_pool, is_held_by}
pub use Rattle.seg_pool.specs.Operations.{uses_of, holds}
pub use Rattle.seg_pool.specs.Pools.{IsEmptyPool, IsSamePool, StandsFor, item_at, note_at, room_of, base_of, volume_of, holders_after, item_in, note_in, holder_in, ChangesOnly}
pub use Rattle.seg_pool.specs.declared.base.Holder.{Holder}
pub use Rattle.seg_pool.specs.declared.base.Holder.TheVariants.{Elsewhere, InPool, HeldBy}
pub use Rattle.seg_pool.specs.declared.base.PoolBase.{PoolBase}
pub use Rattle.seg_pool.specs.declared.pool.Pool.{Pool}
pub use Rattle.log_segment.specs.Segment.{IsBlank, free_part, part_of}
pub use Rattle.log_segment.specs.declared.free.FreeSegment.{FreeSegment}
pub use Rattle.logger.specs.Lanes.{AreAccesses, logger_of, pool_of, spindle_of, IsLane, taken_in, IsHeld, held_in, indexes_in}
pub use Rattle.logger.specs.declared.lane.HeldSegment.{HeldSegment}
pub use Rattle.logger.specs.declared.lane.Lane.{Lane}
pub use Rattle.logger.specs.declared.shared.Shared.{Shared}
pub use Rattle.manager.proofs.Lanes.{get_set, get_other}
pub use Rattle.manager.specs.Stands.{Keeps, IsReadyLane, IsNamed, AreNamed, IsLaneShared, StandsCoded, notes_of}
pub use Rattle.manager.specs.declared.base.ManagerBase.{ManagerBase}
pub use Rattle.manager.specs.declared.manager.Manager.{Manager}
pub use Rattle.manager.specs.declared.manager.ManagerParts.{ManagerParts}
pub use Rattle.manager.specs.declared.station.Station.{Station}
pub use Rattle.manager_recovery.specs.Opening.{place_of, AreInOrder, IsBefore}
pub use Rattle.manager_recovery.specs.declared.opening.OwnedPart.{OwnedPart}
pub use Rattle.volume_images.specs.Volumes.{shape_in, shapes_of}
pub use Rattle.rack_parts.specs.Closing.{pool_in, spindle_in, IsPoolTaken, ArePoolsTaken, AreSpindlesTaken, IsAccessBut, entries_made, CanCloseSpindles, HasSpindlePasses, StandsClosed, KeepsOtherRows, CanPutAllHeld, PutsAllHeld, CanClosePool, IsClosedPool, RefillsAll, IsRefilledAll, KeepsLogger, KeepsSpindles, KeepsButHome, home_here, CanCloseStations, ClosesStation, Closing, IsClosing, ClosesStations, IsStoredAs, GivesBack, IsImageBack, HasFaultHere, IsSpindleTaken}
pub use Rattle.rack_parts.specs.Locks.{IsInOrder, AreSettled, AreSpindlesOf, IsWholeLock}
pub use Rattle.rack_parts.specs.Parts.{IsFilled, IsBarePlace, PutsLanes, CanPutLanes, ChangesHome, with_home, PutsManager, IsSameBut, KeepsImage, segment_in, in_image, IsOwedPlace, PutsOwned, CanPutOwned, KeepsPlace, KeepsRows, HasPlace, PutsLane, held_parts, HasBack, TakesPasses, IsSameRest, segments_of, segment_count, CanPutHeld, PutsHeld, PopsHeld, is_owned_by, count_owners, TakesOwners, TakesOne, owned_in, TakesOwnedIn, owned_total, IsOwnedPlace, IsTakenOf, TakesOwnedOf, CanTakeOwnedOf, AreOwnedHere, TakesOwned, TakesLanes, CanTake, loggers_out, holder_said, left_by, FillsSlot, IsFilledPool, TakesFree, of_head, either_part, item_part, IsBlankPart, IsRefilled, CanFill, IsRestored, Restores, IsSupplied, CanIssue, IsIssuedPool, Supplies, CanEnd, EndsInto, holder_by, IsUsablePlace, IsNewLane, TakesOneLane, HasPlaces, EmptiesInto, IsHomeAway, IsEndedInto, IsTogether, AreFillable}
pub use Rattle.rack_parts.specs.Racks.{IsOpenBase, base_of_station, IsStation}
pub use Rattle.rack_parts.specs.Rests.{list_of, IsRow, image_here, pool_pass, spindle_pass, held_here, segment_here, indexes_here, IsImageOut, IsSpindleLock, IsHolding, IsHeldHere, IsPart, away_with, IsImageRest, AreLocks, OnlyAccess, IsRestBut, AreRooms, out_names, IsRest}
pub use Rattle.rack_parts.specs.declared.heads_said.Said.{Said}
pub use Rattle.rack_parts.specs.declared.locks.Issued.{Issued}
pub use Rattle.rack_parts.specs.declared.rack.ImageRest.{ImageRest}
pub use Rattle.rack_parts.specs.declared.rack.Rest.{Rest}
pub use Rattle.rack_parts.specs.declared.rack.Rooms.{Rooms}
pub use Rattle.rack_parts.specs.declared.rack.VolumePasses.{VolumePasses}
