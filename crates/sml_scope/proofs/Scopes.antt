-- Directives that are noted and taken off.
use Rattle.std.proofs.Common.{◌≡◌, ℕ, Bool, true, false, cond, List, [], ◌∷◌, ◌++◌, Option, nat_eq, refl, sym, ap, ◌∙◌}
use Rattle.std.proofs.Math.Path.{fun_ext}
use Rattle.std.specs.Cmp.Lexicographic.{pointwise, same_text}
use Rattle.sml_fix.specs.declared.fixities.Side.{Side}
use Rattle.sml_fix.specs.Fixities.{Settings, assigned, none, start}
use Rattle.sml_grammar_exp.specs.Decs.{changed}
use Rattle.sml_scope.specs.declared.change.Change.{Change}
use Rattle.sml_scope.specs.Scope.{said, Leads, first_changes}

-- to set what is said already changes nothing
restored : (f : Settings) (v : List ℕ) (s : Option (ℕ × Side)) (w : List ℕ) → assigned (assigned f v s) v (f v) w ≡ f w
restored f v s w = go (pointwise nat_eq v w) refl
  where
    go : (b : Bool) → pointwise nat_eq v w ≡ b → cond b (f v) (cond b s (f w)) ≡ f w
    go true e = ap f (same_text v w (sym e))
    go false e = refl

-- what a log leads to is what its directives say
pub leads_on : (f : Settings) (cs : List Change) (g : Settings) → Leads f cs g → g ≡ changed f (said cs)
leads_on f [] g l = sym l
leads_on f (c ∷ cs) g l = leads_on (assigned f c.name c.after) cs g l.1

-- one more directive
pub leads_more : (f : Settings) (cs : List Change) (g : Settings) (c : Change) → Leads f cs g → c.before ≡ g c.name → Leads f (cs ++ c ∷ []) (assigned g c.name c.after)
leads_more f [] g c l e = (e ∙ ap (λ (h : Settings). h c.name) (sym l), ap (λ (h : Settings). assigned h c.name c.after) l)
leads_more f (d ∷ cs) g c l e = (l.0, leads_more (assigned f d.name d.after) cs g c l.1 e)

-- the last one taken off
pub leads_less : (f : Settings) (cs : List Change) (c : Change) (g : Settings) → Leads f (cs ++ c ∷ []) g → Leads f cs (assigned g c.name c.before)
leads_less f [] c g l =
    sym (ap (λ (h : Settings). assigned h c.name c.before) (sym l.1)
    ∙ (ap (λ (s : Option (ℕ × Side)). assigned (assigned f c.name c.after) c.name s) l.0 ∙ fun_ext (restored f c.name c.after)))
leads_less f (d ∷ cs) c g l = (l.0, leads_less (assigned f d.name d.after) cs c g l.1)

-- before the directives of the start there is no operator
pub first_leads : Leads none first_changes start
first_leads = (refl, (refl, (refl, (refl, (refl, (refl, (refl, (refl, (refl, (refl, (refl, (refl, (refl, (refl, (refl, (refl, (refl, (refl, refl))))))))))))))))))
