-- The PZB 90 preset.
use Rattle.std.specs.Prelude.{codes}
use Rattle.preset.specs.Rule.{pzb90}
use Rattle.preset.specs.Format.{Named}

-- number 1, `Standard`, with the PZB 90 rows
abbrev pub standard : Named
standard = record { number = 1; name = codes "Standard"; rows = pzb90 }
