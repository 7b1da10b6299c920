-- What images a run over open volumes leaves in a bay, where it tells them.
use Rattle.std.specs.Prelude.{◌≡◌, ◌<◌, ℕ, Bool, List, length, take, drop, Contains, Some, slice_get, IsTrue}
use Rattle.wol_disk.specs.Disk.{Block}
use Rattle.wol_bay.specs.Bay.{Told}
use Rattle.wol_model.specs.Blocks.{after}
use Rattle.wol_model.specs.History.{IsCut, writes, in_flight}
use Rattle.wol_model.specs.Extents.{AreDistinct, Extent, covers_of}
use Rattle.wol_model.specs.Index.{Listed}
use Rattle.wol_model.specs.Images.{Images, all_segments, recovered_from}
use Rattle.wol_model.specs.Recovered.{extents_of}
use Rattle.wol_model.specs.Trace.{payloads}
use Rattle.wol_promise.specs.Outcomes.{Answered, answered_in, of_volume}
use Rattle.wol_promise.specs.Policy.{PartName}
use Rattle.wol_promise.specs.Ruled.{entries_of, last_look}
use Rattle.wol_promise.specs.Run.{KeepsSound, LeavesCuts}
use Rattle.run_laws.specs.Answers.{answered_count, answers_of, requests_in}
use Rattle.run_laws.specs.Headline.{IsOneAction}
use Rattle.wol_config.specs.declared.config.Config.{Config}
use Rattle.rack.specs.Closes.{AreListedOf, HasFaultyPart, IsOnLogger, part_named}
use Rattle.rack.specs.Opens.{LeavesFronts}
use Rattle.request_turns.specs.Entries.{IsFlightAt}
use Rattle.volume_images.specs.Volumes.{AreLeft, images_read, shapes_of}
use Rattle.replay.specs.Histories.{History, is_broken, is_broken_at}

-- what volume v recovers to of the images at entry as they read, behind what its answered requests
-- wrote
abbrev pub written_array : Config → List Answered → (entry : Told) → (v : ℕ) → List Block
written_array config answers entry v = after
    (recovered_from (shapes_of config) (images_read config entry) v)
    (payloads v (take (answered_count answers v) (of_volume v (requests_in answers))))

-- the records of volume v in these images
abbrev pub records_in : Config → Images → (v : ℕ) → List Extent
records_in config images v = extents_of v (all_segments (shapes_of config) images)

-- What a crash may leave of the volumes, by their histories and the answers to the requests.
pub record LeavesImages (tells : Bool) (config : Config) (answers : List Answered)
    (histories : List History) (entry new : Told) : Type 0 where
  -- where a call of a disk of a volume failed, the part of it that is down in the end had a fault,
  -- and what was in flight was on its way home, where that is its home, and else to some log
  pub faulty : (v : ℕ) (h : History) → slice_get histories v ≡ Some h → IsTrue (is_broken h)
      → (name : PartName) × ((last_look h.base.look h.notes).down ≡ Some name)
      × IsFlightAt (part_named v name) (in_flight (entries_of h.notes))
      × HasFaultyPart tells config v h.base.view name entry new
  -- whatever images a crash leaves, a volume recovers to what its answered requests wrote
  pub whole : (v : ℕ) → v < length (shapes_of config) → (IsTrue (is_broken_at histories v) → ⊥)
      → (images : Images) → AreLeft config new images
      → recovered_from (shapes_of config) images v ≡ written_array config answers entry v
  -- .. or, where a call failed, to a cut of the writes that were in flight
  pub cuts : LeavesCuts (shapes_of config) (AreLeft config new) (images_read config entry)
      (requests_in answers) (answered_count answers) (λ v. IsTrue (is_broken_at histories v))
  -- the same of its history: what was in flight is one action, and what a volume recovers to is a
  -- cut of it
  pub action : (v : ℕ) (h : History) → slice_get histories v ≡ Some h
      → IsOneAction v (drop (length (answered_in (answers_of v answers)))
      (requests_in (answers_of v answers))) (in_flight (entries_of h.notes))
  pub stopped : (v : ℕ) (h : History) → slice_get histories v ≡ Some h → (images : Images)
      → AreLeft config new images
      → IsCut h.base.array (writes (entries_of h.notes)) (in_flight (entries_of h.notes))
      (recovered_from (shapes_of config) images v)
  -- no two records of a volume in the images have one version, and where no call failed those that
  -- keep a block are the ones that it lists in the end
  pub distinct : (v : ℕ) (h : History) → slice_get histories v ≡ Some h → (images : Images)
      → AreLeft config new images → AreDistinct (covers_of (records_in config images v))
  pub listed : (v : ℕ) (h : History) → slice_get histories v ≡ Some h → (IsTrue (is_broken h) → ⊥)
      → (images : Images) → AreLeft config new images
      → AreListedOf (last_look h.base.look h.notes).listed (records_in config images v)
  -- .. each on the logger of its lane
  pub on_loggers : (v : ℕ) (h : History) → slice_get histories v ≡ Some h
      → (IsTrue (is_broken h) → ⊥) → (images : Images) → AreLeft config new images
      → (e : Listed) → Contains (last_look h.base.look h.notes).listed e
      → IsOnLogger (shapes_of config) images v h.base.view e
  -- whatever images a crash leaves, label and view of a volume are as they were read
  pub fronts : LeavesFronts config entry new
  -- sound images stay sound
  pub sound : KeepsSound (shapes_of config) (AreLeft config entry) (AreLeft config new)
