-- The items of a source, from what its text and its program promise.
use Rattle.std.proofs.Common.{◌≡◌, ℕ, List, Result, Ok, Err, sym, ◌∙◌, subst, inl, inr}
use Rattle.tl_text.specs.declared.code.Code.{Code}
use Rattle.tl_text.specs.declared.code.Code.TheVariants.{Unbuilt}
use Rattle.tl_text.specs.declared.place.Place.{Place}
use Rattle.tl_text.specs.declared.fault.Fault.{Fault}
use Rattle.tl_text.specs.declared.fault.Fault.TheVariants as fault
use Rattle.tl_text.specs.declared.fault.Refusal.{Refusal}
use Rattle.sml_ast.specs.declared.program.Program.{Program}
use Rattle.sml_ast.specs.declared.bare_program.BareProgram.{BareProgram}
use Rattle.sml_fix.specs.Fixities.{Settings, settings}
use Rattle.sml_fix.specs.declared.fixities.Fixities.{Fixities}
use Rattle.sml_scan.specs.Faults.{RefusesAs}
use Rattle.sml_front.specs.Sources.{FoundUnder, GivesRefusal, GivesSource, IsSourceUnder, RefusedUnder}
use Rattle.built_items.specs.declared.item.SourceItem.{SourceItem}
use Rattle.built_items.specs.Built.{AreItems, IfRefused, IsUnbuilt, read_tops, tops_of}
use Rattle.tl_session.specs.Answers.{AnswersFailure}
use Rattle.tl_session.specs.Refused.{FailsUnbuilt, FailsUnder, LeavesOnly}

no_both : (r : Result (List SourceItem) Place) (items : List SourceItem) (place : Place) → r ≡ Ok items → r ≡ Err place → ⊥
no_both r items place is fails = let e : Ok items ≡ Err place = sym is ∙ fails in cc

same_err : (r : Result (List SourceItem) Place) (a b : Place) → r ≡ Err a → r ≡ Err b → a ≡ b
same_err r a b is fails = let e : ◌≡◌ {A = Result (List SourceItem) Place} (Err a) (Err b) = sym is ∙ fails in cc

module _ (number : ℕ) (fix : Settings) (bytes : List ℕ) where
  -- what refuses the text refuses the source
  pub text_refused : (e : Fault) → RefusesAs {T = BareProgram × Fixities} (RefusedUnder number fix bytes) (Err e)
      → IfRefused e (λ r. FailsUnder number fix bytes r.place r.code)
  text_refused (fault.NoMemory n) h = tt
  text_refused (fault.Refused r) h = inl h

  -- and it is what is given where the source fails
  pub text_fails : (e : Fault) → ((p : Program) (left : Settings) → IsSourceUnder number fix bytes p left → GivesSource (Err e) p left)
      → ((place : Place) (c : Code) → RefusedUnder number fix bytes place c → GivesRefusal (Err e) place c)
      → (place : Place) (c : Code) → FailsUnder number fix bytes place c → IfRefused e (λ r. r ≡ record { place = place; code = c })
  text_fails (fault.NoMemory n) only refuses place c h = tt
  text_fails (fault.Refused r) only refuses place c (inl h) = refuses place c h
  text_fails (fault.Refused r) only refuses place c (inr h) = absurd (only h.1 h.0 h.2)

  module _ (bare : BareProgram) (left : Fixities) where
    -- the source is no other program
    abbrev Single : Type 0
    Single = (p : Program) (other : Settings) → IsSourceUnder number fix bytes p other → GivesSource (Ok (bare, left)) p other

    -- and is not refused
    abbrev Passes : Type 0
    Passes = (place : Place) (c : Code) → RefusedUnder number fix bytes place c → GivesRefusal (Ok (bare, left)) place c

    -- it leaves no other fixities
    pub leaves_only : Single → LeavesOnly number fix bytes (settings left)
    leaves_only single p other is = sym (single p other is).1

    -- a place where it is not built is one of this program
    unbuilt_bare : Single → (place : Place) (c : Code) → FailsUnbuilt number fix bytes place c → IsUnbuilt bare place
    unbuilt_bare single place c h = subst (λ (p : BareProgram). IsUnbuilt p place) (sym (single h.1 h.0 h.2).0) h.3

    -- where the program is not built the source fails
    pub program_refused : FoundUnder number fix bytes bare (settings left) → (e : Fault) → IfRefused e (λ r. IsUnbuilt bare r.place × (r.code ≡ Unbuilt))
        → IfRefused e (λ r. FailsUnder number fix bytes r.place r.code)
    program_refused found (fault.NoMemory n) h = tt
    program_refused found (fault.Refused r) h =
        inr (settings left, found.program, found.source, subst (λ (p : BareProgram). IsUnbuilt p r.place) found.derived h.0, h.1)

    -- and fails in no other way
    pub program_fails : Single → Passes → (e : Fault) → IfRefused e (λ r. IsUnbuilt bare r.place × (r.code ≡ Unbuilt))
        → (place : Place) (c : Code) → FailsUnder number fix bytes place c → IfRefused e (λ r. r ≡ record { place = place; code = c })
    program_fails single passes (fault.NoMemory n) h place c k = tt
    program_fails single passes (fault.Refused r) h place c (inl k) = absurd (passes place c k)
    program_fails single passes (fault.Refused r) h place c (inr k) =
        let same_place : r.place ≡ place = same_err (read_tops (tops_of bare)) r.place place h.0 (unbuilt_bare single place c k) in
        let same_code : r.code ≡ c = h.1 ∙ sym k.4 in
        λ i. record { place = same_place i; code = same_code i }

    -- where it is built the source does not fail
    pub built_passes : Single → Passes → (items : List SourceItem) → AreItems bare items → (place : Place) (c : Code) → FailsUnder number fix bytes place c → ⊥
    built_passes single passes items is place c (inl k) = passes place c k
    built_passes single passes items is place c (inr k) = no_both (read_tops (tops_of bare)) items place is (unbuilt_bare single place c k)
