use Rattle.std.proofs.Common.{◌≡◌, ◌≤◌, ◌++◌, ℕ, List, Result, length, take, sym, ap, subst, ◌∙◌, arith}
use Rattle.std.proofs.lemmas.List.{length-take-le}
use Rattle.std.proofs.lemmas.Result.{err_from_is_err_and}
use Rattle.wol_disk.specs.Disk.{Block}
use Rattle.spin_model.specs.Spun.{state_of}
use Rattle.wol_model.specs.Blocks.{Write}
use Rattle.manager.specs.Groups.{AreItemsOf}
use Rattle.log_cleaner.specs.Steps.{RewritesBehind, noted}
use Rattle.log_cleaner.specs.declared.answer.CleanFault.{CleanFault}
use Rattle.log_cleaner.proofs.Rewriting.{fault_ends, run_ends}
use Rattle.log_cleaner.proofs.copy.rewrite.Goals as goal

-- so many blocks begin a room for all of them
front_length : (blocks count : ℕ) (room was : List Block) → blocks ≡ count → count ≤ length was → length room ≡ length was → length (take blocks room) ≡ blocks
front_length blocks count room was is enough same = length-take-le blocks room (omega (arith, is, enough, same))

pub write_some-ran-requires : goal.write_some-ran-requires
write_some-ran-requires g c =
    let state = g.D.Disk.state in let old = c.args.m.now in let mid = c.read_all.new.m in let chunks = c.args.chunks.now in let e = c.in_ok-blocks.ensures in let read = e.read in
    let long = front_length c.in_ok-blocks.blocks _ c.read_all.new.room c.args.room.now read.count c.requires.room c.read_all.auto.room in
    record {
      ready = e.ready;
      at = e.at;
      some = c.requires.some;
      items = subst (λ (most : ℕ). AreItemsOf most (state_of state mid.home).size chunks) (sym read.copied.goes_on.same.most) (subst (λ (size : ℕ). AreItemsOf old.most size chunks) (sym read.size) c.requires.chunks);
      blocks = (let e = read.count in omega (arith, e, long));
    }

pub returns-clause-rewritten : goal.returns-clause-rewritten
returns-clause-rewritten g c =
    let tells = g.D.Disk.tells in let state = g.D.Disk.state in let old = c.args.m.now in let mid = c.read_all.new.m in let chunks = c.args.chunks.now in
    let blocks = c.in_ok-blocks.blocks in let room = c.read_all.new.room in let read = c.in_ok-blocks.ensures.read in
    let long = front_length blocks _ room c.args.room.now read.count c.requires.room c.read_all.auto.room in
    let new = c.write_some-ran.new.self in let ran = c.write_some-ran.result in let w = c.write_some-ran.ensures in let done = c.args.done.now.value.items in
    let x = run_ends tells state old mid new c.requires.can c.in_ok-blocks.ensures.ready chunks (take blocks room) ran.items old.most (state_of state old.home).size c.requires.some c.requires.chunks (let e = read.count in omega (arith, e, long)) c.requires.covered read.copied read.entries read.content ran.answer (record {
      same = w.same;
      run = w.run;
      placed = w.placed;
      answered = w.answered;
      waking = w.waking_home;
      down = λ p is. (w.down p).0 is;
      versions = λ is. (w.versions.0 is).1;
      unspent = λ is. w.versions.1 (read.copied.goes_on.can.up, is);
      fault = w.fault;
      unchanged = w.unchanged;
      calm = w.calm;
    }) in
    subst (λ (r : Result ℕ CleanFault). RewritesBehind tells state chunks old new done c.noted.new.done.value.items r) (sym c.told.ensures)
    (x.0, c.noted.ensures ∙ ap (λ (more : List Write). done ++ noted ran.answer (take ran.items more)) c.next_copies-more.ensures ∙ ap (λ (l : List Write). done ++ l) x.1)

pub returns-in_err-blocks-clause-rewritten : goal.returns-in_err-blocks-clause-rewritten
returns-in_err-blocks-clause-rewritten g c =
    let p = err_from_is_err_and c.from_residual.result c.from_residual.ensures.1 in
    rw (p.1, p.2) (fault_ends g.D.Disk.tells g.D.Disk.state c.args.chunks.now c.args.m.now c.read_all.new.m c.read_all.new.room c.args.done.now.value.items c.in_err-blocks.field-0.0 c.in_err-blocks.ensures.read)
