-- What was in flight when a call of a disk failed was on its way to the part that is down.
use Rattle.std.proofs.Common.{◌≡◌, ◌++◌, ◌∷◌, [], ℕ, Bool, true, false, List, Option, None, Some, Err, refl, sym, ap, subst, ◌∙◌, inl, inr}
use Rattle.std.specs.Prelude.{is_some, unwrap_or, IsSome}
use Rattle.std.specs.Option.{option_or}
use Rattle.wol_disk.specs.Disk.{Block}
use Rattle.turn_lock.specs.Histories.{Entry}
use Rattle.wol_model.specs.Blocks.{Write}
use Rattle.wol_model.specs.History.{Operation, Wrote, Read, Kept, Broke, worker, flight_from, flight_of, in_flight}
use Rattle.wol_model.specs.Placing.{Place, Home, Log, Full}
use Rattle.wol_promise.specs.Manager.{Base}
use Rattle.wol_promise.specs.Policy.{AreWrites, Look, PartName, place_of, placed}
use Rattle.wol_promise.specs.Ruled.{IsStep, Noted, entries_of, last_look}
use Rattle.wol_promise.proofs.DownAndNext.{keep_same}
use Rattle.wol_promise.proofs.OneMore.{flight_then, last_more, or_none}
use Rattle.manager.specs.Seen.{name_of}
use Rattle.manager.specs.Stands.{notes_of}
use Rattle.manager.specs.declared.part.Part.{Part}
use Rattle.manager.specs.declared.part.Part.TheVariants as part
use Rattle.manager.specs.declared.part.ReadRefusal.{ReadRefusal}
use Rattle.manager.specs.declared.part.ReadRefusal.TheVariants as refused_read
use Rattle.manager.specs.declared.part.WriteRefusal.{WriteRefusal}
use Rattle.manager.specs.declared.part.WriteRefusal.TheVariants as refused_write
use Rattle.rack.specs.Closes.{part_named}
use Rattle.request_turns.specs.Blocks.{HasReadBlocks, HasWrittenBlocks}
use Rattle.request_turns.specs.Entries.{IsFlightAt}
use Rattle.request_turns.specs.Turns.{ManagerPass, began, notes_seen, HasTurned, IsBroken, WasDown}
use Rattle.request_turns.specs.declared.outcome.Outcome.TheVariants as outcome
use Rattle.request_turns.proofs.Noting.{notes_at}
use Rattle.nbd_session.specs.Turns.{Turn}
use Rattle.nbd_serving.proofs.Noting.{no_flight}
use Rattle.nbd_serving.specs.Entries.{AddsEntry, BreaksAt}

-- ---- The part that is down in the entry in which a call failed

some_then : (o : Operation) (x : Option (List Write)) → is_some (flight_from o None) ≡ true → is_some (flight_from o x) ≡ true
some_then (Broke ws) x some = refl
some_then (Wrote ws) x some = absurd (let no : false ≡ true = some in cc)
some_then (Read first reply) x some = absurd (let no : false ≡ true = some in cc)
some_then Kept x some = absurd (let no : false ≡ true = some in cc)

some_behind : (o : Operation) (x y : Option (List Write)) → (is_some (flight_from o x) ≡ true → ⊥) → is_some (flight_from o y) ≡ true → (is_some x ≡ true → ⊥) × (is_some y ≡ true)
some_behind (Broke ws) x y unbroken broken = absurd (unbroken refl)
some_behind (Wrote ws) x y unbroken broken = (unbroken, broken)
some_behind (Read first reply) x y unbroken broken = (unbroken, broken)
some_behind Kept x y unbroken broken = (unbroken, broken)

not_empty : (front : List Noted) (m : Noted) (later : List Noted) → [] ≡ front ++ m ∷ later → ⊥
not_empty [] m later is = absurd (cc is)
not_empty (f ∷ front) m later is = absurd (cc is)

-- an entry in which a call had failed is the last one, where none had before that
down_last : (d : Option PartName) (before front later : List Noted) (n m : Noted) → before ++ n ∷ [] ≡ front ++ m ∷ later → (IsBroken before → ⊥) → IsBroken (front ++ m ∷ []) → m.look.down ≡ d → n.look.down ≡ d
down_last d [] [] later n m same unbroken broken down = let is : n ≡ m = cc same in ap (λ (k : Noted). k.look.down) is ∙ down
down_last d [] (f ∷ front) later n m same unbroken broken down = let none : [] ≡ front ++ m ∷ later = cc same in absurd (not_empty front m later none)
down_last d (b ∷ before) [] later n m same unbroken broken down =
    let is : b ≡ m = cc same in
    absurd (unbroken (some_then b.entry.operation (flight_of (entries_of before)) (subst (λ (k : Noted). IsBroken (k ∷ [])) (sym is) broken)))
down_last d (b ∷ before) (f ∷ front) later n m same unbroken broken down =
    let is : b ≡ f = cc same in
    let rest : before ++ n ∷ [] ≡ front ++ m ∷ later = cc same in
    let behind = some_behind b.entry.operation (flight_of (entries_of before)) (flight_of (entries_of (front ++ m ∷ []))) unbroken (subst (λ (k : Noted). IsBroken (k ∷ (front ++ m ∷ []))) (sym is) broken) in
    down_last d before front later n m rest behind.0 behind.1 down

-- writes on their way to a part were so to the part of its name
at_named : (owner : ℕ) (p : Part) (ws : List Write) → IsFlightAt p ws → IsFlightAt (part_named owner (name_of p)) ws
at_named owner (part.Home volume) ws at = at
at_named owner (part.Segment volume index) ws at = at

none_at : (p : Part) → IsFlightAt p []
none_at (part.Home volume) = tt
none_at (part.Segment volume index) = tt

-- ---- A turn in which a call failed

module _ {D : Type 0} (tells : Bool) (p q : ManagerPass D) (before : List Entry) (n : Noted) (turn : HasTurned tells p q before n) (unbroken : IsBroken (notes_of before) → ⊥) where
  breaks_at : (d : Part) (ws : List Write) → WasDown d (notes_seen q) → n.entry.operation ≡ Broke ws → IsFlightAt d ws → (flight : List Write) → n.entry.operation ≡ Broke flight → BreaksAt (began p).owner (notes_of before) n flight
  breaks_at d ws was does at flight is =
      let last = subst (WasDown d) (ap notes_of turn.seen ∙ notes_at before n.entry.pass n refl) was in
      let both : Broke ws ≡ Broke flight = sym does ∙ is in
      let same : ws ≡ flight = cc both in
      record {
        unbroken = no_flight (began p).look (notes_of before) unbroken;
        name = name_of d;
        down = down_last (Some (name_of d)) (notes_of before) last.front last.later n last.note last.notes_are unbroken last.broken last.down;
        way = at_named (began p).owner d flight (subst (IsFlightAt d) same at);
      }

-- no call failed where nothing was changed
pub kept_breaks : (owner : ℕ) (old : List Noted) (n : Noted) → n.entry.operation ≡ Kept → (flight : List Write) → n.entry.operation ≡ Broke flight → BreaksAt owner old n flight
kept_breaks owner old n kept flight is = absurd (let no : Kept ≡ Broke flight = sym kept ∙ is in cc)

pub read_breaks : (owner : ℕ) (old : List Noted) (n : Noted) (first : ℕ) (reply : List Block) → n.entry.operation ≡ Read first reply → (flight : List Write) → n.entry.operation ≡ Broke flight → BreaksAt owner old n flight
read_breaks owner old n first reply does flight is = absurd (let no : Read first reply ≡ Broke flight = sym does ∙ is in cc)

pub wrote_breaks : (owner : ℕ) (old : List Noted) (n : Noted) (ws : List Write) → n.entry.operation ≡ Wrote ws → (flight : List Write) → n.entry.operation ≡ Broke flight → BreaksAt owner old n flight
wrote_breaks owner old n ws does flight is = absurd (let no : Wrote ws ≡ Broke flight = sym does ∙ is in cc)

-- a read that was refused so
pub not_read_breaks : {D : Type 0} (tells : Bool) (first : ℕ) (blocks : List Block) (why : ReadRefusal) (p q : ManagerPass D) (h : HasReadBlocks tells first blocks (Err why) p q) → (flight : List Write) → h.note.entry.operation ≡ Broke flight
    → BreaksAt (began p).owner (notes_of h.before) h.note flight
not_read_breaks tells first blocks (refused_read.DiskFault d) p q h = breaks_at tells p q h.before h.note h.turned h.cause d [] h.fault h.entry (none_at d)
not_read_breaks tells first blocks (refused_read.Down d) p q h = kept_breaks (began p).owner (notes_of h.before) h.note h.entry

-- and a write
pub not_written_breaks : {D : Type 0} (tells : Bool) (first : ℕ) (blocks : List Block) (why : WriteRefusal) (p q : ManagerPass D) (h : HasWrittenBlocks tells first blocks (outcome.NoWrite why) p q) → (flight : List Write) → h.note.entry.operation ≡ Broke flight
    → BreaksAt (began p).owner (notes_of h.before) h.note flight
not_written_breaks tells first blocks refused_write.Full p q h = absurd h.cause
not_written_breaks tells first blocks (refused_write.DiskFault d) p q h = breaks_at tells p q h.before h.note h.turned h.cause.unbroken d h.entry.0 h.fault h.entry.1 h.entry.3
not_written_breaks tells first blocks (refused_write.Down d) p q h = kept_breaks (began p).owner (notes_of h.before) h.note h.entry
not_written_breaks tells first blocks refused_write.VersionsSpent p q h = kept_breaks (began p).owner (notes_of h.before) h.note h.entry.0
not_written_breaks tells first blocks refused_write.NoMemory p q h = kept_breaks (began p).owner (notes_of h.before) h.note h.entry

-- ---- The part that is down in the end

placed_down : (p : Place) (l : Look) (w : Write) → (placed p l w).down ≡ l.down
placed_down Home l w = refl
placed_down (Log lane) l w = refl
placed_down Full l w = refl

writes_down : (passed : List ℕ) (l : Look) (ws : List Write) (m : Look) → AreWrites passed l ws m → m.down ≡ l.down
writes_down passed l [] m is = ap (λ (k : Look). k.down) is
writes_down passed l (w ∷ ws) m (not_full, version, rest) = writes_down passed (placed (place_of passed l w) l w) ws m rest ∙ placed_down (place_of passed l w) l w

wrote_down : (n : Noted) (ws : List Write) (l m : Look) → IsStep n worker (Wrote ws) l m → m.down ≡ l.down
wrote_down n ws l m (inl (first, are)) = writes_down n.passed l ws m are
wrote_down n ws l m (inr (after, d)) = ap (λ (k : Look). k.down) d.drains.bare

-- what is in flight behind these entries was on its way to the part that is down
abbrev pub IsOnWay : Base → List Noted → Type 0
IsOnWay base notes = IsSome (flight_of (entries_of notes))
    → (name : PartName) × ((last_look base.look notes).down ≡ Some name) × IsFlightAt (part_named base.owner name) (in_flight (entries_of notes))

pub none_on_way : (base : Base) → IsOnWay base []
none_on_way base broken = absurd (let no : false ≡ true = broken in cc)

-- so it is behind a turn more
module _ (told : Type 0) (base : Base) (t : Turn) (old new : List Noted) (a : AddsEntry told base t old new) (on_way : IsOnWay base old) where
  abbrev more : List Noted
  more = old ++ a.note ∷ []

  now_down : (last_look base.look more).down ≡ a.note.look.down
  now_down = ap (λ (k : Look). k.down) (last_more base.look old a.note)

  calm_way : (o : Operation) → a.note.entry.operation ≡ o → flight_from o None ≡ None → a.note.look.down ≡ (last_look base.look old).down → IsOnWay base more
  calm_way o does calm same broken =
      let flew : flight_of (entries_of more) ≡ flight_of (entries_of old) = flight_then old a.note o does ∙ ap (λ (f : Option (List Write)). option_or (flight_of (entries_of old)) f) calm ∙ or_none (flight_of (entries_of old)) in
      let (name, down, way) = on_way (subst (λ (f : Option (List Write)). IsSome f) flew broken) in
      (name, now_down ∙ same ∙ down, subst (λ (f : Option (List Write)). IsFlightAt (part_named base.owner name) (unwrap_or f [])) (sym flew) way)

  step : (o : Operation) → a.note.entry.operation ≡ o → IsStep a.note worker o (last_look base.look old) a.note.look
  step o does = subst (λ (p : Operation). IsStep a.note worker p (last_look base.look old) a.note.look) does a.step

  by : (o : Operation) → a.note.entry.operation ≡ o → IsOnWay base more
  by (Broke ws) does =
      let b = a.breaks ws does in
      let flew : flight_of (entries_of more) ≡ Some ws = flight_then old a.note (Broke ws) does ∙ ap (λ (f : Option (List Write)). option_or f (Some ws)) b.unbroken in
      λ broken. (b.name, now_down ∙ b.down, subst (λ (f : Option (List Write)). IsFlightAt (part_named base.owner b.name) (unwrap_or f [])) (sym flew) b.way)
  by (Wrote ws) does = calm_way (Wrote ws) does refl (wrote_down a.note ws (last_look base.look old) a.note.look (step (Wrote ws) does))
  by (Read first reply) does = calm_way (Read first reply) does refl (ap (λ (k : Look). k.down) (step (Read first reply) does).1)
  by Kept does = calm_way Kept does refl (keep_same a.note.passed worker (last_look base.look old) a.note.look (step Kept does).1).0

  pub on_way_more : IsOnWay base new
  on_way_more = subst (IsOnWay base) (sym a.adds) (by a.note.entry.operation refl)
