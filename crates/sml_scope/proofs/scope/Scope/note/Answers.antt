use Rattle.std.proofs.Common.{◌≡◌, ap, sym, ◌∙◌}
use Rattle.sml_fix.specs.Fixities.{none, settings}
use Rattle.sml_scope.proofs.Scopes.{leads_more}
use Rattle.sml_scope.proofs.scope.Scope.note.Goals as goal

pub invariant_of-self-in_default : goal.invariant_of-self-in_default
invariant_of-self-in_default c =
    let noted : c.in_ok-noted.noted ≡ c.args.name.now = c.in_ok-noted.ensures ∙ c.bytes.ensures in
    let changed : c.in_ok-changed.changed ≡ c.in_ok-noted.noted = c.in_ok-changed.ensures ∙ (c.bytes-2.ensures ∙ sym noted) in
    rw (c.in_ok-push.ensures.items, c.in_default.ensures.ok, changed)
    (leads_more none c.self.inside.log.items (settings c.self.inside.fix) (record { name = c.in_ok-noted.noted; before = c.get-before.result; after = c.args.fixity })
    c.self.invariant (c.get-before.ensures ∙ ap (settings c.self.inside.fix) (sym noted)))
