-- A volume that was opened names in its image the loggers of its view.
use Rattle.rack.proofs.ClosingBasics.{◌≡◌, ℕ, List, [], length, Option, Some, None, option_map, ap, ◌∙◌, cond, unwrap_or, Contains, slice_get, slice_get-map}
use Rattle.rack.proofs.ClosingTerms.{Block, reads, Told, at_name, Image, image_of, Config, VolumeConf, images_read, image_read, IsBegun}
use Rattle.std.specs.Prelude.{nat_eq}
use Rattle.wol_promise.specs.Manager.{Base}
use Rattle.rack.specs.Opens.{WasAccepted}
use Rattle.rack.specs.PoolUses.{HadLogger}

-- an image with whole blocks, as it reads
pub image_is_read : (config : Config) (t : Told) (n : ℕ) (v : VolumeConf) (i : Image) → slice_get config.volumes.items n ≡ Some v → at_name v.name t.images ≡ Some i → i.rest ≡ [] → image_of (images_read config t) n ≡ Some (reads i.blocks)
image_is_read config t n v i conf at whole =
    ap (λ (o : Option (Option (List Block))). unwrap_or o None)
    (slice_get-map (λ (w : VolumeConf). image_read (at_name w.name t.images)) config.volumes.items n ∙ ap (option_map (λ (w : VolumeConf). image_read (at_name w.name t.images))) conf)
    ∙ ap image_read at
    ∙ ap (λ (l : List ℕ). cond (nat_eq (length l) 0) (Some (reads i.blocks)) None) whole

-- the view of a volume that began with the images as they read is the one in its image
pub names_logger : (config : Config) (t : Told) (n k : ℕ) (v : VolumeConf) → slice_get config.volumes.items n ≡ Some v → WasAccepted config t n v → (b : Base) → b.owner ≡ n → IsBegun config (images_read config t) b → Contains b.view k → HadLogger config t n k
names_logger config t n k v conf was b owner begun names =
    let read = image_is_read config t n v was.0 conf was.1 was.2 in
    (v, conf, was.0, was.1, b.view, begun.view (reads was.0.blocks) (ap (image_of (images_read config t)) owner ∙ read), names)
