use Rattle.std.proofs.Common.{◌≡◌, ◌<◌, ◌-◌, length, get_or, set, ◌∙◌, arith}
use Rattle.std.specs.Prelude.{vec_len}
use Rattle.std.proofs.lemmas.List.{get_or_default}
use Rattle.spin_model.specs.Spun.{disk_of}
use Rattle.volume_images.proofs.Swaps.{put_back_as}
use Rattle.volume_images.proofs.Stored.{stored_sizes, stored_ok, stored_images, stored_told, stored_fault}
use Rattle.volume_images.proofs.part.store.Goals as goal

pub returns : goal.returns
returns g c =
    let state = g.D.Disk.state in
    let old = disk_of c.new-part.result in
    let y = disk_of c.store_content-stored.new.part in
    let xs = c.args.parts.now.items in
    let ys = c.swap.new.self.items in
    let all : vec_len c.args.parts.now ≡ length xs = omega arith in
    let lt : c.args.place < length xs = omega arith in
    let back : ys ≡ set xs c.args.place y =
    put_back_as xs c.swap_remove.new.self.items c.push_reserved.new.self.items ys c.args.place (vec_len c.args.parts.now) (c.len-last.result - 1) c.into_inner.result y all (omega arith) (omega arith) (omega arith) (omega arith)
    c.swap_remove.ensures.by_index.0 c.swap_remove.ensures.by_index.1 c.push_reserved.ensures.items c.into_inner.ensures c.swap.ensures.by_index in
    let is : old ≡ get_or xs c.args.place old = c.new-part.ensures.disk ∙ c.swap_remove.ensures.value ∙ get_or_default xs c.args.place c.swap_remove.result old lt in
    record {
      sizes = stored_sizes state c.args.content xs ys c.args.place old y lt back is c.store_content-stored.ensures.size;
      ok = λ bss s. stored_ok state c.args.content xs ys c.args.place old y lt back is c.store_content-stored.ensures.size c.store_content-stored.result bss c.store_content-stored.ensures.ok c.store_content-stored.ensures.calm s;
      images = λ bss d s i. stored_images state c.args.content xs ys c.args.place old y lt back is c.store_content-stored.ensures.size bss d c.store_content-stored.ensures.images s i;
      told = λ all_told. stored_told state c.args.content xs ys c.args.place old y lt back is c.store_content-stored.ensures.size c.store_content-stored.ensures.told all_told;
      cause = stored_fault state c.args.content xs ys c.args.place old y lt back is c.store_content-stored.ensures.size c.store_content-stored.result c.store_content-stored.ensures.cause;
    }
