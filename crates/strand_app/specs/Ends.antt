-- How a call ends that puts a text.
use Rattle.std.specs.Prelude.{◌≡◌, ◌⊎◌, ℕ, List}
use Rattle.strand_base.specs.SinkSeen.{SinkSeen, TakesAll, TakesUpToFault}
use Rattle.strand_app.specs.declared.status.Status.{Status}
use Rattle.strand_app.specs.declared.status.Status.TheVariants as status

-- the whole text was put, and no put failed
pub record PutsAll (end : Status) (text : List ℕ) (before after : SinkSeen) (result : Status) : Type 0 where
  pub status : result ≡ end
  pub takes : TakesAll before after text

-- a put failed, which was the last, and a proper front of the text was put
pub record SinkFails (text : List ℕ) (before after : SinkSeen) (result : Status) : Type 0 where
  pub status : result ≡ status.SinkFault
  pub takes : TakesUpToFault before after text

abbrev pub Ends : Status → List ℕ → SinkSeen → SinkSeen → Status → Type 0
Ends end text before after result = PutsAll end text before after result ⊎ SinkFails text before after result
