-- The first line of seed 0 on three volumes, worked out apart from the definitions.
use Rattle.std.proofs.Common.{◌≡◌, List, [], ◌∷◌, codes, refl}
use Rattle.rand_core.specs.Steps.{stream_of}
use Rattle.wol_model.specs.declared.trace.Kind.TheVariants.{Write}
use Rattle.wol_model.specs.Trace.{Target}
use Rattle.trace_gen.specs.Generated.{line, time_after, words_of}

abbrev three : List Target
three = record { host = codes "usr"; disk = 0; home = 1000 } ∷ record { host = codes "web"; disk = 0; home = 1000 } ∷ record { host = codes "src"; disk = 0; home = 1000 } ∷ []

first_words : words_of 0 0 ≡ record { volume = 16294208416658607535; gap = 7960286522194355700; kind = 487617019471545679; offset = 17909611376780542444; size = 1961750202426094747 }
unfolding stream_of
first_words = refl

first_line : line three 0 0 ≡ record { time = 128166372000147231; host = codes "web"; disk = 0; kind = Write; offset = 227328; size = 6144; response = 1000 }
unfolding line time_after stream_of
first_line = refl
