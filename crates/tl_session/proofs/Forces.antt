-- The fixities behind rows of sources.
use Rattle.std.proofs.Common.{◌≡◌, ℕ, suc, ◌+◌, ◌≤◌, List, [], ◌∷◌, ◌++◌, length, refl, sym, ◌∙◌, subst, arith, inl, inr}
use Rattle.tl_text.specs.declared.code.Code.{Code}
use Rattle.tl_text.specs.declared.place.Place.{Place}
use Rattle.sml_ast.specs.declared.program.Program.{Program}
use Rattle.sml_fix.specs.Fixities.{Settings, start}
use Rattle.sml_front.specs.Sources.{IsSourceUnder}
use Rattle.built_items.specs.declared.item.SourceItem.{SourceItem}
use Rattle.tl_session.specs.Faithful.{IsItems, AreRead}
use Rattle.tl_session.specs.Kept.{Source}
use Rattle.tl_session.specs.Refused.{InForce, Fails, FailsUnder, LeavesOnly, source_limit, total_bytes, total_limit}
use Rattle.tl_session.specs.Sessions.{AreInForce}

-- a source of another number, under other fixities
source_at : (k n : ℕ) (fix mid : Settings) (bytes : List ℕ) (p : Program) (left : Settings) → n ≡ k → mid ≡ fix → IsSourceUnder n mid bytes p left → IsSourceUnder k fix bytes p left
source_at k n fix mid bytes p left same_number same_fix is =
    subst (λ m. IsSourceUnder m fix bytes p left) same_number (subst (λ f. IsSourceUnder n f bytes p left) same_fix is)

-- one source more at the end
force_more : (k n : ℕ) (fix mid left : Settings) (ss : List Source) (s : Source) (p : Program) → n ≡ k + length ss
    → InForce k fix ss mid → IsSourceUnder n mid s.bytes p left → InForce k fix (ss ++ s ∷ []) left
force_more k n fix mid left [] s p number h is = (p, left, source_at k n fix mid s.bytes p left (omega arith) h is, refl)
force_more k n fix mid left (t ∷ ss) s p number h is =
    (h.0, h.1, h.2, force_more (suc k) n h.1 mid left ss s p (omega arith) h.3 is)

-- what the last source and those before it are
pub record Ends (k n : ℕ) (fix left : Settings) (ss : List Source) (s : Source) : Type 0 where
  pub mid : Settings
  pub program : Program
  pub force : InForce k fix ss mid
  pub source : IsSourceUnder n mid s.bytes program left

force_ends : (k n : ℕ) (fix left : Settings) (ss : List Source) (s : Source) → n ≡ k + length ss → InForce k fix (ss ++ s ∷ []) left → Ends k n fix left ss s
force_ends k n fix left [] s number h =
    let is : IsSourceUnder n fix s.bytes h.0 h.1 = subst (λ m. IsSourceUnder m fix s.bytes h.0 h.1) (let e : k ≡ n = omega arith in e) h.2 in
    record { mid = fix; program = h.0; force = refl; source = subst (λ f. IsSourceUnder n fix s.bytes h.0 f) (sym h.3) is }
force_ends k n fix left (t ∷ ss) s number h =
    let e : Ends (suc k) n h.1 left ss s = force_ends (suc k) n h.1 left ss s (omega arith) h.3 in
    record { mid = e.mid; program = e.program; force = (h.0, h.1, h.2, e.force); source = e.source }

-- behind no sources the fixities are those at the start
pub force_none : (fix : Settings) → fix ≡ start → AreInForce [] fix
force_none fix is = record { force = is; only = λ left h. h ∙ sym is }

-- the fixities behind one source more are those that it leaves
pub are_in_force_more : (ss : List Source) (s : Source) (fix left : Settings) (p : Program) → AreInForce ss fix
    → IsSourceUnder (suc (length ss)) fix s.bytes p left → LeavesOnly (suc (length ss)) fix s.bytes left → AreInForce (ss ++ s ∷ []) left
are_in_force_more ss s fix left p in_force is only = record {
  force = force_more 1 (suc (length ss)) start fix left ss s p (omega arith) in_force.force is;
  only = λ other h.
      let e : Ends 1 (suc (length ss)) start other ss s = force_ends 1 (suc (length ss)) start other ss s (omega arith) h in
      only e.program other (source_at (suc (length ss)) (suc (length ss)) fix e.mid s.bytes e.program other refl (in_force.only e.mid e.force) e.source);
}

-- items one after another are lawful programs one after another
pub read_force : (k : ℕ) (fix left : Settings) (ss : List Source) (ps : List (List SourceItem)) → AreRead k fix ss ps left → InForce k fix ss left
read_force k fix left [] [] h = h
read_force k fix left [] (p ∷ ps) h = absurd h
read_force k fix left (s ∷ ss) [] h = absurd h
read_force k fix left (s ∷ ss) (p ∷ ps) h = (h.1.program, h.0, h.1.source, read_force (suc k) h.0 left ss ps h.2)

-- a source within the limits fails only under the fixities in force
pub fails_by : {P : Type 0} (before : List Source) (s : Source) (fix : Settings) → AreInForce before fix → length s.bytes ≤ source_limit
    → total_bytes before + length s.bytes ≤ total_limit → (place : Place) (c : Code) → (FailsUnder (suc (length before)) fix s.bytes place c → P) → Fails before s place c → P
fails_by before s fix in_force small few place c by (inl p) = absurd (omega arith)
fails_by before s fix in_force small few place c by (inr (inl q)) = absurd (omega arith)
fails_by before s fix in_force small few place c by (inr (inr r)) =
    by (subst (λ f. FailsUnder (suc (length before)) f s.bytes place c) (in_force.only r.2.0 r.2.1) r.2.2)

-- and it fails where it fails under them
pub fails_under : (before : List Source) (s : Source) (fix : Settings) → AreInForce before fix → length s.bytes ≤ source_limit
    → total_bytes before + length s.bytes ≤ total_limit → (place : Place) (c : Code) → FailsUnder (suc (length before)) fix s.bytes place c → Fails before s place c
fails_under before s fix in_force small few place c under = inr (inr (small, few, (fix, in_force.force, under)))
