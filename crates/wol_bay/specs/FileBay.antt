-- A bay of files, as callers see it: it tells nothing.
use Rattle.std.specs.Prelude.{None}
use Rattle.wol_bay.specs.Bay.{BayState}
use Rattle.wol_bay.specs.declared.files.FileBay.{FileBay}

abbrev pub file_bay_state : FileBay → BayState
file_bay_state b = record { told = None; faults = b.faults }
