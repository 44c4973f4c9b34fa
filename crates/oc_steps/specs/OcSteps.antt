-- The runs of a text, its meaning by whole evaluations, and when they agree.
use Rattle.std.specs.Prelude.{ℕ, List}
use Rattle.beh.specs.Behaviour.{Behaviour, Ending}
use Rattle.beh.specs.Agree.{Agree}
use Rattle.oc_ast.specs.Plain.{PItems}
use Rattle.runs.specs.Tree as run
use Rattle.runs.specs.Primitives.{start}
use Rattle.runs.specs.Forms.{text_scope}
use Rattle.runs.specs.Scope.{Scope}
use Rattle.runs.specs.Items.{mean_items}
use Rattle.runs.specs.Meaning.{Res, Right}
use Rattle.runs.specs.Seen.{Config, ConfigStep, at_start, behaviour, seen_config}
use Rattle.oc_steps.specs.Known as known
use Rattle.oc_steps.specs.View.{items_tree}

-- the row of items that a text stands for
abbrev pub text_tree : PItems → run.Items
text_tree text = items_tree known.at_first text

-- A state of a run: the items still to do with the finished values at their paths, and memory, drawn exceptions and
-- output. A text begins where OCaml's own values alone are there.
abbrev pub begins : PItems → Config
begins text = at_start text_scope (text_tree text) start

-- one step rewrites one place
abbrev pub Step : Config → Config → Type 0
Step = ConfigStep

-- what is seen of a state: the output with Ended, Raised(constructor name) or More
abbrev pub seen : Config → Behaviour
seen = seen_config

-- the evaluation of a text, parts from left to right, where calls stand fewer than n deep in one another
abbrev pub evaluated : PItems → ℕ → Res Scope
evaluated text n = mean_items n text_scope (text_tree text) start

-- the meaning of a text
abbrev pub meaning : PItems → ℕ → Behaviour
meaning text n = behaviour (evaluated text n)

-- no evaluation comes where there is no rule
abbrev pub NeverWrong : PItems → Type 0
NeverWrong text = (n : ℕ) → Right (evaluated text n)

-- a meaning and the runs of a text agree
abbrev pub Agrees : (ℕ → Behaviour) → PItems → Type 0
Agrees p text = Agree p Step seen (begins text)

-- what is seen at an end
abbrev pub ends : List ℕ → Ending → Behaviour
ends out e = record { output = out; ending = e }

-- each run of the text comes to this end
abbrev pub Settles : PItems → List ℕ → Ending → Type 0
Settles text out e = Agrees (λ n. ends out e) text
