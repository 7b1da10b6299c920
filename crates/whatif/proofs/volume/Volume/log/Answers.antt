-- A record is logged.
use Rattle.std.proofs.Common.{◌≡◌, ◌≤◌, ◌+◌, ℕ, true, length, None, sym, subst, ◌∙◌, arith}
use Rattle.std.specs.Prelude.{slice_set}
use Rattle.std.specs.List.{AllByRecursion}
use Rattle.std.proofs.Math.ListN.{length-set}
use Rattle.std.proofs.lemmas.Bool.{false≢true}
use Rattle.wol_model.specs.Index.{listed_in}
use Rattle.wol_model.specs.Log.{marks_of}
use Rattle.block_cells.specs.Runs.{runs_of}
use Rattle.whatif.specs.Volumes.{IsLogged}
use Rattle.whatif.proofs.Written.{entered, logged_look, logged_more, one_run, rec_at, some_kept}
use Rattle.whatif.proofs.volume.Volume.log.Goals as goal

pub add-requires-clause-keeps : goal.add-requires-clause-keeps
add-requires-clause-keeps c = let some = some_kept c.args.count c.requires.some in let is = c.all_kept.ensures in omega (arith, some, is)

pub add-requires-clause-reserved : goal.add-requires-clause-reserved
add-requires-clause-reserved c =
    let one = one_run c.args.count c.requires.some in
    subst (λ (m : ℕ). runs_of (marks_of c.args.count m) ≤ c.reserve.new.self.reserved) (sym c.all_kept.ensures) (subst (λ (n : ℕ). n ≤ c.reserve.new.self.reserved) (sym one) c.in_ok-reserve.ensures.ok)

pub returns-clause-volume : goal.returns-clause-volume
returns-clause-volume c =
    let v = c.args.self.now in let n = c.args.lane in
    let long : length (slice_set v.ups.items n true) ≡ length v.ups.items = length-set v.ups.items n true in
    let entries : c.add.new.self.entries ≡ entered v.index.entries (rec_at v.next c.args.lbn c.args.count n) =
    c.add.ensures.entries ∙ (λ i. entered (c.in_ok-reserve.ensures.unchanged i) (record (rec_at v.next c.args.lbn c.args.count n) { keep = c.all_kept.ensures i })) in record {
      few = c.requires.volume.few;
      flags = long ∙ c.requires.volume.flags;
      rooms_ = c.requires.volume.rooms_;
      logged = subst (λ (k : ℕ). AllByRecursion (IsLogged k (v.next + 1)) c.add.new.self.entries) (sym long)
          (subst (AllByRecursion (IsLogged (length v.ups.items) (v.next + 1))) (sym entries) (logged_more (length v.ups.items) v.next c.args.lbn c.args.count n v.index.entries c.requires.lane c.requires.volume.logged));
      settled = λ is. absurd (false≢true is);
      store_ = c.in_ok-file.ensures.more v.next v.loggers.items c.requires.volume.store_;
    }

pub returns-clause-look : goal.returns-clause-look
returns-clause-look c =
    let v = c.args.self.now in let n = c.args.lane in
    let entries : c.add.new.self.entries ≡ entered v.index.entries (rec_at v.next c.args.lbn c.args.count n) =
    c.add.ensures.entries ∙ (λ i. entered (c.in_ok-reserve.ensures.unchanged i) (record (rec_at v.next c.args.lbn c.args.count n) { keep = c.all_kept.ensures i })) in
    (λ i. record { home_up = v.home_up; ups = slice_set v.ups.items n true; next = v.next + 1; listed = listed_in (entries i); down = None }) ∙ logged_look v.next c.args.lbn c.args.count v.index.entries v.home_up v.ups.items n
