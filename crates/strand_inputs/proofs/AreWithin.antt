-- Serves read_machine, clause within of given_in: where nothing was given, no size is outside its limits.
use Rattle.std.proofs.Common.{zero, suc}
use Rattle.strand_inputs.specs.Machine.{nothing_given, AreWithin}

pub nothing_within : AreWithin nothing_given
nothing_within zero = tt
nothing_within (suc zero) = tt
nothing_within (suc (suc zero)) = tt
nothing_within (suc (suc (suc zero))) = tt
nothing_within (suc (suc (suc (suc zero)))) = tt
nothing_within (suc (suc (suc (suc (suc zero))))) = tt
nothing_within (suc (suc (suc (suc (suc (suc k)))))) = tt
