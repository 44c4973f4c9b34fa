use Rattle.std.proofs.Common.{◌≡◌, ℕ, ◌<◌, arith, length, rules, List, [], ◌∷◌, ◌++◌, Option, Some, ap, sym, ◌∙◌, subst}
use Rattle.std.specs.Option.{option_to_list}
use Rattle.std.specs.Vec.{vec_len}
use Rattle.std.proofs.lemmas.List.{length-map}
use Rattle.sml_grammar_exp.specs.Decs.{Changes}
use Rattle.sml_fix.specs.declared.fixities.Side.{Side}
use Rattle.sml_fix.specs.Fixities.{none, settings}
use Rattle.sml_scope.specs.declared.change.Change.{Change}
use Rattle.sml_scope.specs.Scope.{Leads, said}
use Rattle.sml_scope.proofs.Scopes.{leads_less}
use Rattle.sml_scope.proofs.scope.Scope.undo.Goals as goal

pub invariant_of-self-2 : goal.invariant_of-self-2
invariant_of-self-2 c =
    let last = c.index-last.result.now in
    let some : 0 < length (said c.self.inside.log.items) = subst (λ (z : Changes). 0 < length z) (sym c.self.view_is) c.requires in
    let count : length (said c.self.inside.log.items) ≡ length c.self.inside.log.items = length-map {B = List ℕ × Option (ℕ × Side)} c.self.inside.log.items (λ (d : Change). (d.name, d.after)) in
    let held : 0 < vec_len c.self.inside.log = omega (arith, some, count) in
    let found : c.pop.result ≡ Some last = c.pop.ensures.value last held ∙ ap (λ (x : Change). Some x) (search rules) in
    let whole : c.self.inside.log.items ≡ c.pop.new.self.items ++ last ∷ [] = c.pop.ensures.items ∙ ap (λ (o : Option Change). c.pop.new.self.items ++ option_to_list o) found in
    let P : List Change → Type 0 = λ z. Leads none z (settings c.self.inside.fix) in
    rw (c.in_ok-set.ensures.ok, c.in_ok-name.ensures, c.bytes.ensures) (leads_less none c.pop.new.self.items last (settings c.self.inside.fix) (subst P whole c.self.invariant))
