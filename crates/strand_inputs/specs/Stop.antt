-- The moment at which a run is cut off.
use Rattle.std.specs.Prelude.{ℕ, List, Option, Some, Result, Ok, Err, nat_le, if◌then◌else◌}
use Rattle.std.specs.Option.{option_map}
use Rattle.std.specs.Str.{bytes_eq}
use lib.Chars.{codes}
use Rattle.strand_inputs.specs.Machine.{decimal_in}
use Rattle.strand_inputs.specs.declared.stop.Stop.{Stop}
use Rattle.strand_inputs.specs.declared.stop.Stop.TheVariants.{End, At}
use Rattle.strand_inputs.specs.declared.stop.StopPast.{StopPast}

-- 'end', or a number
unfoldable pub stop_of : List ℕ → Option Stop
stop_of word = if bytes_eq word (codes "end") then Some End else option_map (λ n. At n) (decimal_in word)

-- how many of a schedule's steps are made
abbrev pub steps_to : Stop → ℕ → Result ℕ StopPast
steps_to End steps = Ok steps
steps_to (At n) steps = if nat_le n steps then Ok n else Err (record { stop = n; steps = steps })
