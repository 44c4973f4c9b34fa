-- The directives in force as a log: what each made of its identifier, and what that was before.
use Rattle.std.specs.Prelude.{◌≡◌, ℕ, List, [], ◌∷◌, Some, None, map}
use Rattle.sml_fix.specs.declared.fixities.Side.{Side}
use Rattle.sml_fix.specs.Fixities.{Settings, assigned}
use Rattle.sml_grammar_exp.specs.Decs.{Changes, started}
use Rattle.sml_scope.specs.declared.change.Change.{Change}

-- what the directives say
abbrev pub said : List Change → Changes
said = map (λ c. (c.name, c.after))

-- they lead from some fixities to others, and each names what was there before it
abbrev pub Leads : Settings → List Change → Settings → Type 0
Leads f [] g = f ≡ g
Leads f (c ∷ cs) g = (c.before ≡ f c.name) × Leads (assigned f c.name c.after) cs g

-- identifiers that were no operators become such ones
abbrev pub made_operators : ℕ × Side → List (List ℕ) → List Change
made_operators s = map (λ v. record { name = v; before = None; after = Some s })

-- the directives of the start, before which there is no operator
abbrev pub first_changes : List Change
first_changes = map (λ x. record { name = x.0; before = None; after = x.1 }) started
