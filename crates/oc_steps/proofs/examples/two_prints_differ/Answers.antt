use Rattle.oc_steps.proofs.Differs.{in_place_differs, two_prints_differ}
use Rattle.oc_steps.proofs.examples.two_prints_differ.Goals as goal

pub returns : goal.returns
returns c = record { tuple = two_prints_differ; call = in_place_differs }
