-- The workers of volumes with their doors.
use Rattle.std.specs.Prelude.{◌≡◌, ℕ, List, Option}
use Rattle.request_turns.specs.Turns.{ManagerPass}
use Rattle.nbd_session.specs.Turns.{Turn}
use Rattle.nbd_doors.specs.Doors.{ServesDoor}
use Rattle.nbd_doors.specs.declared.door.Connection.{Connection}
use Rattle.nbd_serving.specs.Workers.{CanServe}
use Rattle.live_serving.specs.declared.posts.Post.{Post}

-- its worker can serve the blocks that it exports
abbrev pub CanServePost : {D G : Type 0} → Post D G → Type 0
CanServePost p = CanServe p.lock.now p.worker p.shared.now p.export.blocks p.most

-- its worker served the clients of its door, and can serve still; all else is the same but the room
-- for drains
pub record ServesPost {D G S K : Type 0} (left : S → Option (List ℕ)) (source_faults : S → ℕ)
    (taken : K → Option (List ℕ)) (sink_faults : K → ℕ)
    (turned : Turn → ManagerPass D → ManagerPass D → Type 0)
    (gave : G → Option (Connection S K) → G → Type 0) (p q : Post D G) : Type 0 where
  pub only : q ≡ record p { fetch = q.fetch; worker = q.worker; door = q.door }
  pub ready : CanServePost q
  pub clients : ServesDoor left source_faults taken sink_faults turned p.export.name.now
      p.export.blocks p.most gave p.door p.worker q.door q.worker
