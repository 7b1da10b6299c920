-- What a client knows of a volume whose helper and keeper have turns between its own.
use Rattle.std.specs.Prelude.{◌≡◌, ◌++◌, ◌∷◌, [], List}
use Rattle.turn_lock.specs.Histories.{Entry, own}
use Rattle.wol_model.specs.History.{worker}
use Rattle.wol_promise.specs.Manager.{Base}
use Rattle.wol_promise.specs.Ruled.{Noted}
use Rattle.manager.specs.Stands.{notes_of}
use Rattle.request_turns.specs.Turns.{coded}
use Rattle.nbd_session.specs.Turns.{Turn}
use Rattle.nbd_serving.specs.Pieces.{IsTurnAt, pieces_of}

-- A volume began with this base, and these are all entries of its lock since, whoever made them. A
-- turn of a session makes the next of the worker's own entries, and is a turn at the plain array
-- that the volume began with, after the pieces that stood before that entry.
pub record TurnsIn (told : Type 0) (base : Base) (es : List Entry) (turn : Turn)
    (old new : List Entry) : Type 0 where
  pub before : List Entry
  pub note : Noted
  pub behind : List Entry
  pub at : es ≡ before ++ coded note ∷ behind
  pub pass : note.entry.pass ≡ worker
  pub own_ : own worker before ≡ old
  pub adds : new ≡ old ++ coded note ∷ []
  pub is_turn : IsTurnAt told base.array turn (pieces_of base.look (notes_of before))
      (pieces_of base.look (notes_of before ++ note ∷ []))
