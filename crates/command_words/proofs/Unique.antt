-- Words ask for one command at most.
use Rattle.std.proofs.Common.{◌≡◌, ◌∙◌, ◌<◌, ◌^◌, ◌⊎◌, inl, inr, ℕ, Bool, true, false, refl, sym, ap, ap₂, subst, arith, List, [], ◌≤◌, Option, None, Some, codes, option_map, is_some, true≢false}
use Rattle.std.specs.Prelude.{cond, decimal, unwrap_or, IfSome, IsTrue, ◌↔◌, ⊤}
use Rattle.std.specs.Str.{bytes_eq}
use Rattle.std.proofs.lemmas.Fmt.{decimal_injective}
use Rattle.clap.specs.Words.{Row, Text}
use Rattle.solo.specs.Volume.{target_of}
use Rattle.solo.specs.declared.volume.Volume.{Volume}
use Rattle.wol_model.specs.Trace.{Target}
use Rattle.command_words.specs.Commands.{HasValues, name_of}
use Rattle.command_words.specs.Laws.{AreSame, CommandsAreOne, format_missing, nbd, same, serve, solo, view_add, view_remove}
use Rattle.command_words.specs.Table.{Named, mode_text}
use Rattle.command_words.specs.Values.{HasNames, HasOptions, HasText, HasTrace, HasVolume, HasWait, HasWhatIf, missing_by, named_by, served_by}
use Rattle.command_words.specs.declared.command.Command.{Command}
use Rattle.command_words.specs.declared.command.Command.TheVariants.{Solo, Format, FormatMissing, Replay, Check, Dump, Gen, Soak, WhatIf, ViewAdd, ViewRemove, Clean, Nbd, Serve}
use Rattle.command_words.specs.declared.command.Generated.{Generated}
use Rattle.command_words.specs.declared.command.MissingName.{MissingName}
use Rattle.command_words.specs.declared.command.Mode.{Mode}
use Rattle.command_words.specs.declared.command.Mode.TheVariants.{Off, Between, Beside}
use Rattle.command_words.specs.declared.command.Options.{Options}
use Rattle.command_words.specs.declared.command.Patience.{Patience}
use Rattle.command_words.specs.declared.command.ServedName.{ServedName}
use Rattle.command_words.specs.declared.command.ViewNames.{ViewNames}
use Rattle.command_words.specs.declared.command.WhatIfOptions.{WhatIfOptions}

-- two texts that a test tells apart
pub apart : (x y : Text) → bytes_eq x x ≡ true → bytes_eq y x ≡ false → x ≡ y → ⊥
apart x y own other e = true≢false (sym own ∙ ap (λ t. bytes_eq t x) e ∙ other)

one_text : (rows : List Row) (name x y : Text) → HasText rows name x → HasText rows name y → x ≡ y
one_text rows name x y h k = ap (λ o. unwrap_or o []) (sym h ∙ k)

one_number : (rows : List Row) (name : Text) (m n : ℕ) → m < 2 ^ 64 → n < 2 ^ 64 → HasText rows name (decimal m) → HasText rows name (decimal n) → m ≡ n
one_number rows name m n small_m small_n h k = decimal_injective m n small_m small_n (one_text rows name (decimal m) (decimal n) h k)

same_volume : (rows : List Row) (v w : Target) → HasVolume rows v → HasVolume rows w → v ≡ w
same_volume rows v w h k =
    let host = one_text rows (codes "HOST") v.host w.host h.host k.host in
    let disk = one_number rows (codes "DISK") v.disk w.disk (omega (arith, h.small)) (omega (arith, k.small)) h.disk k.disk in
    let home = one_number rows (codes "BLOCKS") v.home w.home (omega (arith, h.most)) (omega (arith, k.most)) h.blocks k.blocks in
    λ i. record { host = host i; disk = disk i; home = home i }

same_names : (rows : List Row) (v w : Named) → HasNames rows v → HasNames rows w → v ≡ w
same_names rows v w h k =
    let volume = one_text rows (codes "NAME") v.volume w.volume h.volume k.volume in
    let logger = one_text rows (codes "LOGGER") v.logger w.logger h.logger k.logger in
    λ i. record { volume = volume i; logger = logger i }

same_trace : (rows : List Row) (a b : Generated) → HasTrace rows a → HasTrace rows b → a ≡ b
same_trace rows a b h k =
    let seed = one_number rows (codes "SEED") a.seed b.seed (omega (arith, h.seeds)) (omega (arith, k.seeds)) h.seed k.seed in
    let lines = one_number rows (codes "LINES") a.lines b.lines (omega (arith, h.most)) (omega (arith, k.most)) h.lines k.lines in
    λ i. record { seed = seed i; lines = lines i }

same_mode : (m n : Mode) → mode_text m ≡ mode_text n → m ≡ n
same_mode Off Off e = refl
same_mode Off Between e = absurd (apart (codes "off") (codes "between") refl refl e)
same_mode Off Beside e = absurd (apart (codes "off") (codes "beside") refl refl e)
same_mode Between Off e = absurd (apart (codes "between") (codes "off") refl refl e)
same_mode Between Between e = refl
same_mode Between Beside e = absurd (apart (codes "between") (codes "beside") refl refl e)
same_mode Beside Off e = absurd (apart (codes "beside") (codes "off") refl refl e)
same_mode Beside Between e = absurd (apart (codes "beside") (codes "between") refl refl e)
same_mode Beside Beside e = refl

same_test : (b c : Bool) (P : Type 0) → IsTrue b ↔ P → IsTrue c ↔ P → b ≡ c
same_test true true P h k = refl
same_test false false P h k = refl
same_test true false P h k = sym (k.1 (h.0 refl))
same_test false true P h k = h.1 (k.0 refl)

same_options : (rows : List Row) (o p : Options) → HasOptions rows o → HasOptions rows p → o ≡ p
same_options rows o p h k =
    let workers = decimal_injective o.workers p.workers (omega (arith, h.workers.most)) (omega (arith, k.workers.most)) (sym h.workers.given ∙ k.workers.given) in
    let reclaim = same_mode o.reclaim p.reclaim (sym h.reclaim ∙ k.reclaim) in
    let each = same_test o.each p.each _ h.each k.each in
    λ i. record { workers = workers i; reclaim = reclaim i; each = each i }

same_timeout : (o p : Option ℕ) → option_map decimal o ≡ option_map decimal p → IfSome o (λ ms. (1 ≤ ms) × (ms ≤ 86400000)) → IfSome p (λ ms. (1 ≤ ms) × (ms ≤ 86400000)) → o ≡ p
same_timeout None None e h k = refl
same_timeout None (Some n) e h k = absurd (true≢false (sym (ap is_some e)))
same_timeout (Some m) None e h k = absurd (true≢false (ap is_some e))
same_timeout (Some m) (Some n) e h k = ap Some (decimal_injective m n (omega (arith, h.1)) (omega (arith, k.1)) (ap (λ o. unwrap_or o []) e))

same_what_if : (rows : List Row) (o p : WhatIfOptions) → HasWhatIf rows o → HasWhatIf rows p → o ≡ p
same_what_if rows o p h k =
    let long = same_test o.long p.long _ h.long k.long in
    let volumes = same_test o.volumes p.volumes _ h.volumes k.volumes in
    let timeout = same_timeout o.timeout_ms p.timeout_ms (sym h.timeout.given ∙ k.timeout.given) h.timeout.range k.timeout.range in
    λ i. record { long = long i; volumes = volumes i; timeout_ms = timeout i }

same_patience : (rows : List Row) (p q : Patience) → HasWait rows p.seconds → HasWait rows q.seconds → p ≡ q
same_patience rows p q h k =
    let seconds = decimal_injective p.seconds q.seconds (omega (arith, h.most)) (omega (arith, k.most)) (sym h.given ∙ k.given) in
    λ i. record { seconds = seconds i }

-- ---- A command by its name

-- which command a name is of, if of any
pub data Kind : Type 0 where
  of_solo of_format of_replay of_check of_dump of_gen of_soak of_whatif : Kind
  of_view_add of_view_remove of_clean of_nbd of_serve : Kind
  of_none : Kind

abbrev pub kind_of : Text → Kind
kind_of name =
    cond (bytes_eq name (codes "solo")) of_solo
    (cond (bytes_eq name (codes "format")) of_format
    (cond (bytes_eq name (codes "replay")) of_replay
    (cond (bytes_eq name (codes "check")) of_check
    (cond (bytes_eq name (codes "dump")) of_dump
    (cond (bytes_eq name (codes "gen")) of_gen
    (cond (bytes_eq name (codes "soak")) of_soak
    (cond (bytes_eq name (codes "whatif")) of_whatif
    (cond (bytes_eq name (codes "view-add")) of_view_add
    (cond (bytes_eq name (codes "view-remove")) of_view_remove
    (cond (bytes_eq name (codes "clean")) of_clean
    (cond (bytes_eq name (codes "nbd")) of_nbd
    (cond (bytes_eq name (codes "serve")) of_serve
    of_none))))))))))))

-- a command of this kind
abbrev pub IsOf : Kind → Command → Type 0
IsOf of_solo d = (volume : Volume) × (d ≡ Solo volume)
IsOf of_format d = (d ≡ Format) ⊎ ((missing : MissingName) × (d ≡ FormatMissing missing))
IsOf of_replay d = (options : Options) × (d ≡ Replay options)
IsOf of_check d = d ≡ Check
IsOf of_dump d = d ≡ Dump
IsOf of_gen d = (asked : Generated) × (d ≡ Gen asked)
IsOf of_soak d = (asked : Generated) × (options : Options) × (d ≡ Soak asked options)
IsOf of_whatif d = (options : WhatIfOptions) × (d ≡ WhatIf options)
IsOf of_view_add d = (names : ViewNames) × (d ≡ ViewAdd names)
IsOf of_view_remove d = (names : ViewNames) × (d ≡ ViewRemove names)
IsOf of_clean d = d ≡ Clean
IsOf of_nbd d = (served : ServedName) × (d ≡ Nbd served)
IsOf of_serve d = (served : ServedName) × (patience : Patience) × (d ≡ Serve served patience)
IsOf of_none d = ⊤

own_kind : (d : Command) → IsOf (kind_of (name_of d)) d
own_kind (Solo volume) = (volume, refl)
own_kind Format = inl refl
own_kind (FormatMissing missing) = inr (missing, refl)
own_kind (Replay options) = (options, refl)
own_kind Check = refl
own_kind Dump = refl
own_kind (Gen asked) = (asked, refl)
own_kind (Soak asked options) = (asked, options, refl)
own_kind (WhatIf options) = (options, refl)
own_kind (ViewAdd names) = (names, refl)
own_kind (ViewRemove names) = (names, refl)
own_kind Clean = refl
own_kind (Nbd served) = (served, refl)
own_kind (Serve served patience) = (served, patience, refl)

pub by_name : (name : Text) (d : Command) → name ≡ name_of d → IsOf (kind_of name) d
by_name name d is = subst (λ t. IsOf (kind_of t) d) (sym is) (own_kind d)

-- two commands of one name and with the same values
module _ (rows : List Row) (d : Command) (k : HasValues rows d) where
  values_of : (c : Command) → d ≡ c → HasValues rows c
  values_of c is = subst (HasValues rows) is k

  alike : (c e : Command) → d ≡ e → AreSame c e → AreSame c d
  alike c e is = subst (AreSame c) (sym is)

  same_at : (c : Command) → HasValues rows c → IsOf (kind_of (name_of c)) d → AreSame c d
  same_at (Solo v) h (w, is) = alike _ _ is (solo (same_volume rows (target_of v) (target_of w) h (values_of _ is)))
  same_at Format h (inl is) = alike _ _ is same
  same_at Format h (inr (w, is)) = absurd (h (missing_by w) (values_of _ is))
  same_at (FormatMissing v) h (inl is) = absurd (values_of _ is (missing_by v) h)
  same_at (FormatMissing v) h (inr (w, is)) = alike _ _ is (format_missing (one_text rows (codes "NAME") (missing_by v) (missing_by w) h (values_of _ is)))
  same_at (Replay o) h (p, is) = alike _ _ is (subst (AreSame _) (ap Replay (same_options rows o p h (values_of _ is))) same)
  same_at Check h is = alike _ _ is same
  same_at Dump h is = alike _ _ is same
  same_at (Gen a) h (b, is) = alike _ _ is (subst (AreSame _) (ap Gen (same_trace rows a b h (values_of _ is))) same)
  same_at (Soak a o) h (b, p, is) =
      let values = values_of _ is in
      alike _ _ is (subst (AreSame _) (ap₂ Soak (same_trace rows a b h.0 values.0) (same_options rows o p h.1 values.1)) same)
  same_at (WhatIf o) h (p, is) = alike _ _ is (subst (AreSame _) (ap WhatIf (same_what_if rows o p h (values_of _ is))) same)
  same_at (ViewAdd v) h (w, is) = alike _ _ is (view_add (same_names rows (named_by v) (named_by w) h (values_of _ is)))
  same_at (ViewRemove v) h (w, is) = alike _ _ is (view_remove (same_names rows (named_by v) (named_by w) h (values_of _ is)))
  same_at Clean h is = alike _ _ is same
  same_at (Nbd v) h (w, is) = alike _ _ is (nbd (one_text rows (codes "NAME") (served_by v) (served_by w) h (values_of _ is)))
  same_at (Serve v p) h (w, q, is) =
      let values = values_of _ is in
      alike _ _ is (subst (λ (r : Patience). AreSame (Serve v p) (Serve w r)) (same_patience rows p q h.1 values.1) (serve (one_text rows (codes "NAME") (served_by v) (served_by w) h.0 values.0)))

abbrev found : Option (Text × List Row) → Text × List Row
found o = unwrap_or o ([], [])

pub commands_are_one : CommandsAreOne
commands_are_one words c d h k =
    let met : Some (h.name, h.rows) ≡ Some (k.name, k.rows) = sym h.met ∙ k.met in
    let names : h.name ≡ k.name = ap (λ o. (found o).0) met in
    let rows : h.rows ≡ k.rows = ap (λ o. (found o).1) met in
    same_at k.rows d k.asks.values c (subst (λ rs. HasValues rs c) rows h.asks.values) (by_name _ d (sym h.asks.named ∙ names ∙ k.asks.named))
