-- A symbol while it is read, by where its name stands in the file.
use Rattle.strand_image.specs.declared.reading.Spelt.{Spelt}
use Rattle.strand_image.specs.declared.symbol.Symbol.{Symbol}

abbrev pub seen : Spelt → Symbol
seen s = record { region = s.region; place = s.place; name = s.name.now }
