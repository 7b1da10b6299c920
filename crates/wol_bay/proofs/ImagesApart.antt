-- Images of a bay in memory, of which no two have one name.
use Rattle.std.proofs.Common.{◌≡◌, List, [], ◌∷◌, ◌++◌, map, sym, ap, ◌∙◌, subst}
use Rattle.std.specs.Prelude.{string_bytes}
use Rattle.std.proofs.lemmas.List.{map-append}
use Rattle.wol_bay.specs.Bay.{Name, Image, AreApart, without}
use Rattle.wol_bay.specs.Names.{by_name}
use Rattle.wol_bay.specs.Held.{named_image}
use Rattle.wol_bay.specs.declared.held.Image as held
use Rattle.wol_bay.proofs.BayMoves.{kept_by}
use Rattle.wol_bay.proofs.NamedApart.{gone_apart, in_place_apart}

module _ (name : Name) (images images' : List held.Image) (apart : AreApart (map named_image images))
    (gone : by_name (λ image. string_bytes image.name) images' ≡ without name (by_name (λ image. string_bytes image.name) images)) where
  rest : map named_image images' ≡ without name (map named_image images)
  rest = kept_by (λ image. string_bytes image.name) (λ image. (named_image image).1) name images images' gone

  -- without one of them
  pub left_apart : AreApart (map named_image images')
  left_apart = subst (λ (l : List (Name × Image)). AreApart l) (sym rest) (gone_apart name (map named_image images) apart)

  -- with another in its place
  pub placed_apart : (images'' : List held.Image) (image : held.Image) → images'' ≡ images' ++ image ∷ [] → string_bytes image.name ≡ name → AreApart (map named_image images'')
  placed_apart images'' image more is =
      let all : map named_image images'' ≡ without name (map named_image images) ++ (name, (named_image image).1) ∷ [] =
      ap (λ (l : List held.Image). map named_image l) more ∙ map-append named_image images' (image ∷ []) ∙ ap (λ l. l ++ named_image image ∷ []) rest
      ∙ ap (λ (n : Name). without name (map named_image images) ++ (n, (named_image image).1) ∷ []) is in
      subst (λ (l : List (Name × Image)). AreApart l) (sym all) (in_place_apart name (map named_image images) (named_image image).1 apart)
