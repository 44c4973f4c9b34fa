-- What a session is after a source, and what it answers.
use Rattle.std.specs.Prelude.{◌≡◌, ℕ, suc, List, [], length, Result, MatchResult}
use Rattle.tl_text.specs.declared.fault.Fault.{Fault}
use Rattle.tl_text.specs.declared.fault.Refusal.{Refusal}
use Rattle.sml_fix.specs.Fixities.{Settings, start}
use Rattle.built_items.specs.declared.item.SourceItem.{SourceItem}
use Rattle.built_items.specs.Built.{IfRefused}
use Rattle.oc_layout.specs.Layout.{Layout}
use Rattle.oc_ast.specs.Plain.{PItems}
use Rattle.tl_session.specs.Written.{base_of, unit_tree}
use Rattle.tl_session.specs.Faithful.{Standing, IsItems, with_source}
use Rattle.tl_session.specs.Kept.{Source}
use Rattle.tl_session.specs.Refused.{Fails, InForce}

-- the tree of the text of a further source with this program
abbrev pub next_text : Standing → Source → List SourceItem → PItems
next_text s source program = unit_tree (suc (length s.sources)) (base_of source.name) program

-- The source is taken: it is these items under the fixities in force, and the text is the layout of their tree; there are no notes.
pub record IsTaken (before : Standing) (source : Source) (after : Standing) (text notes : List ℕ) : Type 0 where
  pub program : List SourceItem
  pub fix : Settings
  pub left : Settings
  pub force : InForce 1 start before.sources fix
  pub read : IsItems (suc (length before.sources)) fix source.bytes program left
  pub standing : after ≡ with_source before source program
  pub text_is : text ≡ Layout (next_text before source program)
  pub no_notes : notes ≡ []

-- the source fails where the refusal says
abbrev pub IsFailure : Standing → Source → Refusal → Type 0
IsFailure s source refusal = Fails s.sources source refusal.place refusal.code

-- the answer is this refusal, or no memory
abbrev pub AnswersFailure : {A : Type 0} → Result A Fault → Refusal → Type 0
AnswersFailure answer refusal = MatchResult answer (λ _. ⊥) (λ fault. IfRefused fault (λ given. given ≡ refusal))
