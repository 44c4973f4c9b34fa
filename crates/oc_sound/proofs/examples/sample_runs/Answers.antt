use Rattle.oc_sound.proofs.Sample.{sample_agrees, sample_secure, sample_types}
use Rattle.oc_sound.proofs.examples.sample_runs.Goals as goal

pub returns : goal.returns
returns c = record { types = sample_types; secure = sample_secure; runs = sample_agrees }
