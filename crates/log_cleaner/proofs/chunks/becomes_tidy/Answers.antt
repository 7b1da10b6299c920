use Rattle.std.proofs.Common.{◌≡◌, ◌-◌, ◌/◌, ◌^◌, ℕ, true, false, sym, ap, subst, ◌∙◌, arith, eqb}
use Rattle.std.specs.Prelude.{◌↔◌}
use Rattle.wol_model.specs.Index.{listed_in}
use Rattle.log_cleaner.specs.Chunks.{BecomesTidy}
use Rattle.std.proofs.lemmas.Nat.Bits.{ones_shr}
use Rattle.log_cleaner.proofs.Becoming.{becomes, becomes_found, newest_there}
use Rattle.log_cleaner.proofs.Finding.{has_version_}
use Rattle.log_cleaner.proofs.chunks.becomes_tidy.Goals as goal

pub live-requires : goal.live-requires
live-requires c = has_version_ c.args.index.now.entries c.in-Some-find.ensures.index c.in-Some.newest.version c.in-Some-find.record c.in-Some-find.ensures.value

pub returns-in_default : goal.returns-in_default
returns-in_default c = (
  λ no. absurd (let wrong : false ≡ true = no in cc),
  λ t. absurd (becomes_found c.args.index.now.entries c.args.chunk.lbn c.args.chunk.count c.requires.count.0 t (rw c.in_default.is at c.newest.ensures)),
)

pub returns-in_default-find : goal.returns-in_default-find
returns-in_default-find c = (
  λ no. absurd (let wrong : false ≡ true = no in cc),
  λ t. absurd (newest_there c.args.index.now.entries c.args.chunk.lbn c.in-Some.newest c.in-Some.ensures (rw c.in_default-find.is at c.find.ensures.value)),
)

pub returns : goal.returns
returns c =
    let n : 128 - (128 - c.args.chunk.count) ≡ c.args.chunk.count = omega (arith, c.requires.count.1) in
    let all : (2 ^ 128 - 1) / 2 ^ (128 - c.args.chunk.count) ≡ 2 ^ c.args.chunk.count - 1 = ones_shr 128 (128 - c.args.chunk.count) (omega arith) ∙ ap (λ k. 2 ^ k - 1) n in
    subst (λ (n : ℕ). (eqb c.moved-live.result n ≡ true) ↔ BecomesTidy (listed_in c.args.index.now.entries) c.args.chunk.lbn c.args.chunk.count) (sym all)
    (becomes c.args.index.now.entries c.in-Some-find.ensures.index c.args.chunk.lbn c.args.chunk.count c.requires.count.0 c.requires.count.1 c.in-Some.newest c.in-Some.ensures c.in-Some-find.record c.in-Some-find.ensures.value
    c.live.result c.live.ensures c.moved-live.result (omega arith) c.moved-live.ensures)
