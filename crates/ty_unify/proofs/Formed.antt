-- A type is well-formed exactly where its tree is.
use Rattle.std.proofs.Common.{◌≡◌, ℕ, ◌==◌, suc, List, [], ◌∷◌, length, map, Bool, true, false, IsTrue, ◌&&◌, ◌||◌, refl, sym, ap, ◌∙◌, subst, arith}
use Rattle.std.proofs.lemmas.Bool.Decides.{nat_tests}
use Rattle.std.specs.List.{list_any, list_all}
use Rattle.tl_text.specs.Pairs.{map_second, seconds}
use Rattle.sml_static.specs.Labels.{labels, is_before, increases_after, is_increasing}
use Rattle.sml_static.specs.WellFormed.{Numbering, is_numbered, is_well_formed, well_formed_step}
use Rattle.sml_static.specs.declared.ty.Label.{Label}
use Rattle.sml_static.specs.declared.ty.Ty.{Ty}
use Rattle.sml_static.specs.declared.ty.Ty.TheOpen.{Ty-F}
use Rattle.sml_static.specs.declared.ty.Ty.TheFolds.{fold-roll-Ty, ind-Ty, map-Ty}
use Rattle.sml_static.specs.declared.ty.TyName.{TyName}
use Rattle.ty_unify.specs.Trees.{Tree, Rigid, Fork, Named, Record, Field, Argument}
use Rattle.ty_unify.specs.Building.{under, under_step, has_free, has_free_step, is_closed, closed_step, more_args, more_fields, named_tree, fields_tree}
use Rattle.ty_unify.specs.Formed.{arguments, starts_after, name_formed, is_formed}
use Rattle.ty_unify.proofs.Building.{or_first, or_second, and_both}

-- the tests of a part are put behind those of its row
turn : (s t r i a : Bool) → (s && r) ≡ (i && a) → ((s && t) && r) ≡ (i && (t && a))
turn true true r i a e = e
turn false true r i a e = e
turn true false r true a e = refl
turn true false r false a e = refl
turn false false r true a e = refl
turn false false r false a e = refl

under_first : (b x y : Bool) (c d : Bool) → x ≡ (c && d) → (b && x) ≡ ((b && c) && d)
under_first true x y c d e = e
under_first false x y c d e = refl

module _ (names : Numbering) (θ : ℕ → Tree) where
  -- where the trees of its free variables are, the tree of a type without bound variables is well-formed exactly where the type is
  abbrev Agrees : Ty → Type 0
  Agrees t = IsTrue (is_closed t) → ((n : ℕ) → IsTrue (has_free n t) → IsTrue (is_formed names (θ n))) → is_formed names (under θ t) ≡ is_well_formed names 0 t

  abbrev Part : Type 0
  Part = (t : Ty) × Agrees t

  abbrev whole : Part → Ty
  whole e = e.0

  abbrev args_of : List Part → List Ty
  args_of = map whole

  abbrev fields_of : List (Label × Part) → List (Label × Ty)
  fields_of = map_second whole

  arguments_of : (ts : List Ty) → arguments (more_args (map (under θ) ts)) ≡ length (map (is_well_formed names 0) ts)
  arguments_of [] = refl
  arguments_of (t ∷ ts) = ap suc (arguments_of ts)

  args_agree : (ts : List Part) → IsTrue (list_all (λ a. a) (map is_closed (args_of ts))) → ((n : ℕ) → IsTrue (list_any (λ a. a) (map (has_free n) (args_of ts))) → IsTrue (is_formed names (θ n)))
      → is_formed names (more_args (map (under θ) (args_of ts))) ≡ list_all (λ a. a) (map (is_well_formed names 0) (args_of ts))
  args_agree [] c f = refl
  args_agree (x ∷ ts) c f =
      let d = and_both (is_closed x.0) (list_all (λ a. a) (map is_closed (args_of ts))) c in
      ap (λ b. b && is_formed names (more_args (map (under θ) (args_of ts)))) (x.1 d.0 (λ n h. f n (or_first (has_free n x.0) (list_any (λ a. a) (map (has_free n) (args_of ts))) h)))
      ∙ ap (λ b. is_well_formed names 0 x.0 && b) (args_agree ts d.1 (λ n h. f n (or_second (has_free n x.0) (list_any (λ a. a) (map (has_free n) (args_of ts))) h)))

  named_agree : (name : TyName) (ts : List Part) → IsTrue (list_all (λ a. a) (map is_closed (args_of ts))) → ((n : ℕ) → IsTrue (list_any (λ a. a) (map (has_free n) (args_of ts))) → IsTrue (is_formed names (θ n)))
      → is_formed names (named_tree name (map (under θ) (args_of ts))) ≡ (is_numbered names name && (length (map (is_well_formed names 0) (args_of ts)) == name.arity) && list_all (λ a. a) (map (is_well_formed names 0) (args_of ts)))
  named_agree name [] c f = sym (and_true (is_numbered names name && (0 == name.arity)))
    where
      and_true : (b : Bool) → (b && true) ≡ b
      and_true true = refl
      and_true false = refl
  named_agree name (x ∷ ts) c f =
      let d = and_both (is_closed x.0) (list_all (λ a. a) (map is_closed (args_of ts))) c in
      let rest = more_args (map (under θ) (args_of ts)) in
      let all = list_all (λ a. a) (map (is_well_formed names 0) (args_of ts)) in
      let count = length (map (is_well_formed names 0) (args_of ts)) in
      let first = x.1 d.0 (λ n h. f n (or_first (has_free n x.0) (list_any (λ a. a) (map (has_free n) (args_of ts))) h)) in
      let others = args_agree ts d.1 (λ n h. f n (or_second (has_free n x.0) (list_any (λ a. a) (map (has_free n) (args_of ts))) h)) in
      turn (name_formed names name (suc (arguments rest))) (is_formed names (under θ x.0)) (is_formed names rest) (name_formed names name (suc count)) all
      (ap (λ k. name_formed names name (suc k) && is_formed names rest) (arguments_of (args_of ts)) ∙ ap (λ b. name_formed names name (suc count) && b) others)
      ∙ ap (λ b. name_formed names name (suc count) && (b && all)) first

  row_agrees : (l : Label) (fs : List (Label × Part)) → IsTrue (list_all (λ b. b) (seconds (map_second is_closed (fields_of fs))))
      → ((n : ℕ) → IsTrue (list_any (λ b. b) (seconds (map_second (has_free n) (fields_of fs)))) → IsTrue (is_formed names (θ n)))
      → (starts_after l (more_fields (map_second (under θ) (fields_of fs))) && is_formed names (more_fields (map_second (under θ) (fields_of fs))))
      ≡ (increases_after l (labels (map_second (is_well_formed names 0) (fields_of fs))) && list_all (λ b. b) (seconds (map_second (is_well_formed names 0) (fields_of fs))))
  row_agrees l [] c f = refl
  row_agrees l (x ∷ fs) c f =
      let d = and_both (is_closed x.1.0) (list_all (λ b. b) (seconds (map_second is_closed (fields_of fs)))) c in
      let rest = more_fields (map_second (under θ) (fields_of fs)) in
      let i = increases_after x.0 (labels (map_second (is_well_formed names 0) (fields_of fs))) in
      let all = list_all (λ b. b) (seconds (map_second (is_well_formed names 0) (fields_of fs))) in
      let first = x.1.1 d.0 (λ n h. f n (or_first (has_free n x.1.0) (list_any (λ b. b) (seconds (map_second (has_free n) (fields_of fs)))) h)) in
      let others = row_agrees x.0 fs d.1 (λ n h. f n (or_second (has_free n x.1.0) (list_any (λ b. b) (seconds (map_second (has_free n) (fields_of fs)))) h)) in
      under_first (is_before l x.0) ((starts_after x.0 rest && is_formed names (under θ x.1.0)) && is_formed names rest) true i (is_well_formed names 0 x.1.0 && all)
      (turn (starts_after x.0 rest) (is_formed names (under θ x.1.0)) (is_formed names rest) i all others ∙ ap (λ b. i && (b && all)) first)

  fields_agree : (fs : List (Label × Part)) → IsTrue (list_all (λ b. b) (seconds (map_second is_closed (fields_of fs))))
      → ((n : ℕ) → IsTrue (list_any (λ b. b) (seconds (map_second (has_free n) (fields_of fs)))) → IsTrue (is_formed names (θ n)))
      → is_formed names (fields_tree (map_second (under θ) (fields_of fs)))
      ≡ (is_increasing (labels (map_second (is_well_formed names 0) (fields_of fs))) && list_all (λ b. b) (seconds (map_second (is_well_formed names 0) (fields_of fs))))
  fields_agree [] c f = refl
  fields_agree (x ∷ fs) c f =
      let d = and_both (is_closed x.1.0) (list_all (λ b. b) (seconds (map_second is_closed (fields_of fs)))) c in
      let rest = more_fields (map_second (under θ) (fields_of fs)) in
      let i = increases_after x.0 (labels (map_second (is_well_formed names 0) (fields_of fs))) in
      let all = list_all (λ b. b) (seconds (map_second (is_well_formed names 0) (fields_of fs))) in
      let first = x.1.1 d.0 (λ n h. f n (or_first (has_free n x.1.0) (list_any (λ b. b) (seconds (map_second (has_free n) (fields_of fs)))) h)) in
      let others = row_agrees x.0 fs d.1 (λ n h. f n (or_second (has_free n x.1.0) (list_any (λ b. b) (seconds (map_second (has_free n) (fields_of fs)))) h)) in
      turn (starts_after x.0 rest) (is_formed names (under θ x.1.0)) (is_formed names rest) i all others ∙ ap (λ b. i && (b && all)) first

  level_agrees : (y : Ty-F Part) → IsTrue (closed_step (map-Ty Ty Bool is_closed (map-Ty Part Ty whole y))) → ((n : ℕ) → IsTrue (has_free_step n (map-Ty Ty Bool (has_free n) (map-Ty Part Ty whole y))) → IsTrue (is_formed names (θ n)))
      → is_formed names (under_step θ (map-Ty Ty Tree (under θ) (map-Ty Part Ty whole y))) ≡ well_formed_step names 0 (map-Ty Ty Bool (is_well_formed names 0) (map-Ty Part Ty whole y))
  level_agrees (Ty-F.Free n) c f = f n (same n)
    where
      same : (n : ℕ) → IsTrue (n == n)
      same n = grind (arith, nat_tests)
  level_agrees (Ty-F.Bound i) c f = absurd (cc)
  level_agrees (Ty-F.Fields fs) c f = fields_agree fs c f
  level_agrees (Ty-F.Arrow a b) c f =
      let d = and_both (is_closed a.0) (is_closed b.0) c in
      ap (λ k. k && is_formed names (under θ b.0)) (a.1 d.0 (λ n h. f n (or_first (has_free n a.0) (has_free n b.0) h)))
      ∙ ap (λ k. is_well_formed names 0 a.0 && k) (b.1 d.1 (λ n h. f n (or_second (has_free n a.0) (has_free n b.0) h)))
  level_agrees (Ty-F.Con name ts) c f = named_agree name ts c f

  pub formed_under : (t : Ty) → Agrees t
  formed_under = ind-Ty Agrees (λ x y is. λ c f.
      let from = λ (z : Ty-F Ty). IsTrue (closed_step (map-Ty Ty Bool is_closed z)) → ((n : ℕ) → IsTrue (has_free_step n (map-Ty Ty Bool (has_free n) z)) → IsTrue (is_formed names (θ n)))
      → is_formed names (under_step θ (map-Ty Ty Tree (under θ) z)) ≡ well_formed_step names 0 (map-Ty Ty Bool (is_well_formed names 0) z) in
      let here = subst from is (level_agrees y) (subst IsTrue (fold-roll-Ty Bool closed_step x) c) (λ n h. f n (subst IsTrue (sym (fold-roll-Ty Bool (has_free_step n) x)) h)) in
      ap (is_formed names) (fold-roll-Ty Tree (under_step θ) x) ∙ here ∙ sym (fold-roll-Ty Bool (well_formed_step names 0) x))
