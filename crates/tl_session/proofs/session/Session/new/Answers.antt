use Rattle.std.proofs.Common.{List, sym, subst}
use Rattle.tl_session.specs.Faithful.{IsTranslation}
use Rattle.tl_session.specs.Sessions.{standing_of}
use Rattle.tl_session.specs.declared.session.Accepted.{Accepted}
use Rattle.tl_session.proofs.Translation.{translation_none}
use Rattle.tl_session.proofs.session.Session.new.Goals as goal

pub returns-clause-translation : goal.returns-clause-translation
returns-clause-translation c =
    let P : List Accepted → Type 0 = λ accepted. IsTranslation (standing_of accepted) in
    subst P (sym c.new.ensures) translation_none
