-- A `local` as it is read and as the grammar has it: one of the core where all its members are, also with none, and else one at structure level.
use Rattle.std.proofs.Common.{◌≡◌, ◌⊎◌, if◌then◌else◌, ℕ, zero, suc, ◌≤◌, max, Bool, true, false, not, ◌&&◌, List, [], ◌∷◌, ◌++◌, Option, Some, None, map, refl, sym, ap, subst, ◌∙◌, arith, inl, inr}
use Rattle.std.specs.Prelude.{is_some}
use Rattle.tl_text.specs.declared.place.Place.{Place}
use Rattle.readers.specs.declared.code.Code.TheVariants.{Grammar, Depth}
use Rattle.readers.specs.Reader.{first, head_is, barred}
use Rattle.readers.specs.Language.{Both, Bound, Steps, Passing, Shows, As, Or, Skip, Close}
use Rattle.readers.specs.Room.{Room, at_height}
use Rattle.readers.specs.Forms.{growth, highest, height_of}
use Rattle.readers.proofs.Combine.{shown_test}
use Rattle.readers.proofs.First.{head_other}
use Rattle.readers.proofs.Grow.{growth_ok}
use Rattle.readers.proofs.Row.{both_true}
use Rattle.sml_lex.specs.declared.token.Token.{Token}
use Rattle.sml_ast.specs.declared.exp.AtExp.TheOpen.{Dec-F}
use Rattle.sml_ast.specs.declared.exp.Dec.{Dec, roll-Dec, out-roll-Dec}
use Rattle.sml_ast.specs.declared.program.StrBind.TheOpen.{StrDec-F}
use Rattle.sml_ast.specs.declared.program.StrBind.TheFolds.{fold-roll-StrDec}
use Rattle.sml_ast.specs.declared.program.StrDec.{roll-StrDec, out-roll-StrDec}
use Rattle.sml_grammar.specs.Words.{ABSTYPE, DATATYPE, END, EXCEPTION, FUN, IN, INFIX, INFIXR, LOCAL, NONFIX, OPEN, TYPE, VAL}
use Rattle.sml_grammar.specs.Tokens.{just, is, the, place, plain_fix}
use Rattle.sml_grammar.specs.Types.{trees}
use Rattle.sml_grammar.proofs.Sets.{is_just, apart, apart_is}
use Rattle.sml_grammar_exp.specs.Exps.{De}
use Rattle.sml_grammar_exp.specs.Decs.{Changes, after, afters, local_of, LocalD, ItemD, decs_form}
use Rattle.sml_grammar_exp.specs.Levels.{dec_on, DecR}
use Rattle.sml_grammar_mod.specs.Strs.{Sd, strdec_changes_step, str_after, str_afters, dec_place_in, dec_place, core_of, local_str_of, core_in, core_dec, all_core, beyond_core, StructsD, strdec_form, StrItemD, strdecs_form, strdec_on, StrBindR, StrDecsR}
use Rattle.sml_grammar_mod.specs.ReadStrs.{core_with, cores, local_by, any_local_of}
use Rattle.sml_grammar_mod.proofs.Except.{Except}

-- ---- directives

after_core : (c : Changes) (d : De) → str_after c (core_of d) ≡ after c d
after_core c d = ap (λ (x : Changes). c ++ x) (fold-roll-StrDec (Unit {0}) Changes (Unit {0}) (λ b. tt) strdec_changes_step (λ e. tt) (StrDec-F.Core (dec_place d.0) d.0))

afters_core : (c : Changes) (ds : List De) → str_afters c (map core_of ds) ≡ afters c ds
afters_core c [] = refl
afters_core c (d ∷ ds) = ap (λ (x : Changes). str_afters x (map core_of ds)) (after_core c d) ∙ afters_core (after c d) ds

-- ---- which members are of the core

is_core : (d : De) → core_dec (core_of d).0 ≡ Some d.0
is_core d = ap core_in (out-roll-StrDec (StrDec-F.Core (dec_place d.0) d.0))

cores_of : (ds : List De) → cores (map core_of ds) ≡ Some (trees ds)
cores_of [] = refl
cores_of (d ∷ ds) = ap (λ x. core_with x (cores (map core_of ds))) (is_core d) ∙ ap (λ x. core_with (Some d.0) x) (cores_of ds)

core_some : (x : Option Dec) (y : Option (List Dec)) (l : List Dec) → core_with x y ≡ Some l → (is_some x ≡ true) × ((m : List Dec) × (y ≡ Some m))
core_some None y l e = absurd cc
core_some (Some d) None l e = absurd cc
core_some (Some d) (Some m) l e = (refl, (m, refl))

core_none : (x : Option Dec) (y : Option (List Dec)) → core_with x y ≡ None → (is_some x ≡ false) ⊎ (y ≡ None)
core_none None y e = inl refl
core_none (Some d) None e = inr refl
core_none (Some d) (Some m) e = absurd cc

and_two : (a b : Bool) → a ≡ true → b ≡ true → (a && b) ≡ true
and_two a b e f = rw e f

and_first : (a b : Bool) → a ≡ false → (a && b) ≡ false
and_first a b e = rw e refl

and_second : (a b : Bool) → b ≡ false → (a && b) ≡ false
and_second true b e = e
and_second false b e = refl

cores_all : (ds : List Sd) (l : List Dec) → cores ds ≡ Some l → all_core ds ≡ true
cores_all [] l e = refl
cores_all (d ∷ ds) l e = let a = core_some (core_dec d.0) (cores ds) l e in and_two (is_some (core_dec d.0)) (all_core ds) a.0 (cores_all ds a.1.0 a.1.1)

cores_few : (ds : List Sd) → cores ds ≡ None → all_core ds ≡ false
cores_few [] e = absurd cc
cores_few (d ∷ ds) e = elim (core_none (core_dec d.0) (cores ds) e) [
  | inl a ↦ and_first (is_some (core_dec d.0)) (all_core ds) a
  | inr a ↦ and_second (is_some (core_dec d.0)) (all_core ds) (cores_few ds a)
]

abbrev pub Local : Type 0
Local = Place × (List Sd × List Sd)

any_beyond : (x : Local) (m n : Option (List Dec)) → cores x.1.0 ≡ m → cores x.1.1 ≡ n → beyond_core x ≡ true → local_by x m n ≡ local_str_of x
any_beyond x None n e f i = refl
any_beyond x (Some a) None e f i = refl
any_beyond x (Some a) (Some b) e f i =
    let no : false ≡ true = sym (ap not (and_two (all_core x.1.0) (all_core x.1.1) (cores_all x.1.0 a e) (cores_all x.1.1 b f))) ∙ i in
    absurd cc

-- ---- heights

core_heights : (ds : List De) → max 1 (highest height_of (map core_of ds)) ≡ suc (highest height_of ds)
core_heights [] = refl
core_heights (d ∷ ds) = let a = core_heights ds in omega (arith, a)

-- a `local` of the core, read at structure level
any_core : (p : Place) (ds es : List De) → any_local_of (p, (map core_of ds, map core_of es)) ≡ core_of (local_of (p, (ds, es)))
any_core p ds es =
    ap (λ m. local_by x m (cores (map core_of es))) (cores_of ds) ∙ (ap (λ m. local_by x (Some (trees ds)) m) (cores_of es) ∙ (ap (λ (n : ℕ). (roll-StrDec (StrDec-F.Core p d), n)) tall ∙ ap (λ (q : Place). (roll-StrDec (StrDec-F.Core q d), suc (suc (max (highest height_of ds) (highest height_of es))))) at))
  where
    x : Local
    x = (p, (map core_of ds, map core_of es))

    d : Dec
    d = roll-Dec (Dec-F.Local p (trees ds) (trees es))

    tall : max 2 (suc (max (highest height_of (map core_of ds)) (highest height_of (map core_of es)))) ≡ suc (suc (max (highest height_of ds) (highest height_of es)))
    tall = let a = core_heights ds in let b = core_heights es in omega (arith, a, b)

    at : p ≡ dec_place (roll-Dec (Dec-F.Local p (trees ds) (trees es)))
    at = sym (ap dec_place_in (out-roll-Dec (Dec-F.Local p (trees ds) (trees es))))

-- ---- rows of the core as rows at structure level, one higher

module _ (h : ℕ) (b : Bool) where
  steps_up : (c : Changes) (ds : List De) (w : List Token) → Steps after (λ x. ItemD (dec_on h b x)) c ds w → Steps str_after (λ x. StrItemD (strdec_on (suc h) b x)) c (map core_of ds) w
  unfolding strdec_on
  steps_up c [] w e = e
  steps_up c (d ∷ ds) w e =
      let i = e.left in
      let j = i.2 in
      record {
        front = e.front;
        back = e.back;
        left = ((core_of i.0.0, i.0.1), ap core_of i.1, record { front = j.front; back = j.back; left = inl (i.0.0, refl, j.left); right = j.right; whole = j.whole });
        right = subst (λ (x : Changes). Steps str_after (λ x. StrItemD (strdec_on (suc h) b x)) x (map core_of ds) e.back) (sym (after_core c d)) (steps_up (after c d) ds e.back e.right);
        whole = e.whole;
      }

  row_up : (c : Changes) (ds : List De) (w : List Token) → decs_form (dec_on h b) c ds w → strdecs_form (strdec_on (suc h) b) c (map core_of ds) w
  row_up c ds w e =
      let j = e.2 in
      ((e.0.0, map core_of e.0.1), ap (map core_of) e.1, record { front = j.front; back = j.back; left = j.left; right = steps_up c e.0.1 j.back j.right; whole = j.whole })

  one_down : (c : Changes) (t : Sd) (w : List Token) → is_some (core_dec t.0) ≡ true → strdec_on (suc h) b c t w → (d : De) × (core_of d ≡ t) × dec_on h b c d w
  unfolding strdec_on
  one_down c t w e (inl a) = a
  one_down c t w e (inr (inl a)) = let no : false ≡ true = ap (λ x. is_some x) (sym (ap core_in (out-roll-StrDec _))) ∙ (ap (λ (t : Sd). is_some (core_dec t.0)) a.1 ∙ e) in absurd cc
  one_down c t w e (inr (inr a)) = let no : false ≡ true = ap (λ x. is_some x) (sym (ap core_in (out-roll-StrDec _))) ∙ (ap (λ (t : Sd). is_some (core_dec t.0)) a.1 ∙ e) in absurd cc

  steps_down : (c : Changes) (ts : List Sd) (w : List Token) → all_core ts ≡ true → Steps str_after (λ x. StrItemD (strdec_on (suc h) b x)) c ts w → (ds : List De) × (map core_of ds ≡ ts) × Steps after (λ x. ItemD (dec_on h b x)) c ds w
  steps_down c [] w e d = ([], refl, d)
  steps_down c (t ∷ ts) w e d =
      let two = both_true (is_some (core_dec t.0)) (all_core ts) e in
      let i = d.left in
      let j = i.2 in
      let x = one_down c i.0.0 j.front (ap (λ (t : Sd). is_some (core_dec t.0)) i.1 ∙ two.0) j.left in
      let same : core_of x.0 ≡ t = x.1 ∙ i.1 in
      let r = steps_down (str_after c t) ts d.back two.1 d.right in
      let on : str_after c t ≡ after c x.0 = ap (str_after c) (sym same) ∙ after_core c x.0 in (
        x.0 ∷ r.0,
        ap (λ (t : Sd). t ∷ map core_of r.0) same ∙ ap (λ (ts : List Sd). t ∷ ts) r.1,
        record {
          front = d.front;
          back = d.back;
          left = ((x.0, i.0.1), refl, record { front = j.front; back = j.back; left = x.2; right = j.right; whole = j.whole });
          right = subst (λ (y : Changes). Steps after (λ x. ItemD (dec_on h b x)) y r.0 d.back) on r.2;
          whole = d.whole;
        },
      )

  row_down : (c : Changes) (ts : List Sd) (w : List Token) → all_core ts ≡ true → strdecs_form (strdec_on (suc h) b) c ts w → (ds : List De) × (map core_of ds ≡ ts) × decs_form (dec_on h b) c ds w
  row_down c ts w e d =
      let j = d.2 in
      let r = steps_down c d.0.1 j.back (ap all_core d.1 ∙ e) j.right in
      (r.0, r.1 ∙ d.1, ((d.0.0, r.0), refl, record { front = j.front; back = j.back; left = j.left; right = r.2; whole = j.whole }))

-- ---- the two languages

module _ (cs : Changes) where
  abbrev pub PartsD : Room → Local → List Token → Type 0
  PartsD k = Both (Shows (the LOCAL)) (Bound (StrDecsR cs k) (λ ds. Skip (is IN) (Close (StrDecsR (str_afters cs ds) k) (is END))))

  abbrev pub AnyD : Room → Sd → List Token → Type 0
  AnyD k = As any_local_of (Passing (growth (is LOCAL) true 1 k.height) (PartsD k))

  abbrev pub OtherD : Room → Sd → List Token → Type 0
  OtherD k = As core_of (Except (is LOCAL) (DecR cs) k)

  -- as it is read
  abbrev pub ReadD : Room → Sd → List Token → Type 0
  ReadD k = Or (AnyD k) (Or (StructsD (StrBindR cs k)) (OtherD k))

  abbrev pub StrDecD : Room → Sd → List Token → Type 0
  StrDecD k = strdec_form (DecR cs k) (StrBindR cs k) (StrDecsR cs k) (λ ds. StrDecsR (str_afters cs ds) k)

  parts_first : (k : Room) (x : Local) (w : List Token) → PartsD k x w → (c : Token) × (first w ≡ Some c) × (is LOCAL c ≡ true)
  parts_first k x w j = (j.left.token, ap first j.whole ∙ ap (λ (z : List Token). first (z ++ j.back)) j.left.whole, shown_test (is LOCAL) place j.left.token x.0 j.left.shows)

  pass : (k : Room) (x : Local) (w : List Token) → 1 ≤ k.height → PartsD k x w → barred (growth (is LOCAL) true 1 k.height) (first w) ≡ None
  pass k x w le j = let c = parts_first k x w j in ap (barred (growth (is LOCAL) true 1 k.height)) c.1 ∙ growth_ok (is LOCAL) true 1 k.height c.0 c.2 refl le

  no_room : (b : Bool) (x : Local) (w : List Token) → PartsD (at_height 0 b) x w → barred (growth (is LOCAL) true 1 0) (first w) ≡ None → ⊥
  no_room b x w j e = let c = parts_first (at_height 0 b) x w j in go (is LOCAL c.0) c.2 (sym (ap (barred (growth (is LOCAL) true 1 0)) c.1) ∙ e)
    where
      go : (a : Bool) → a ≡ true → (if a && true then Some Depth else Some Grammar) ≡ None → ⊥
      go true e f = absurd cc
      go false e f = absurd cc

  -- ---- from what is read

  other_to : (h : ℕ) (b : Bool) (x : Local) (t : Sd) (w : List Token) (m n : Option (List Dec)) → cores x.1.0 ≡ m → cores x.1.1 ≡ n → any_local_of x ≡ t → PartsD (at_height (suc h) b) x w → StrDecD (at_height (suc h) b) t w
  unfolding dec_on
  other_to h b x t w None n e f q j =
      let i : beyond_core x ≡ true = ap not (and_first (all_core x.1.0) (all_core x.1.1) (cores_few x.1.0 e)) in
      inr (inr (x, sym (any_beyond x (cores x.1.0) (cores x.1.1) refl refl i) ∙ q, (i, j)))
  other_to h b x t w (Some l) None e f q j =
      let i : beyond_core x ≡ true = ap not (and_second (all_core x.1.0) (all_core x.1.1) (cores_few x.1.1 f)) in
      inr (inr (x, sym (any_beyond x (cores x.1.0) (cores x.1.1) refl refl i) ∙ q, (i, j)))
  other_to h b x t w (Some l) (Some m) e f q j =
      let s = j.right in
      let u = s.right in
      let v = u.right in
      let ds = row_down h b cs x.1.0 s.front (cores_all x.1.0 l e) s.left in
      let es = row_down h b (str_afters cs x.1.0) x.1.1 v.front (cores_all x.1.1 m f) v.left in
      let on : str_afters cs x.1.0 ≡ afters cs ds.0 = ap (str_afters cs) (sym ds.1) ∙ afters_core cs ds.0 in
      let same : any_local_of (x.0, (map core_of ds.0, map core_of es.0)) ≡ any_local_of x = ap (λ (y : List Sd). any_local_of (x.0, (y, map core_of es.0))) ds.1 ∙ ap (λ (y : List Sd). any_local_of (x.0, (x.1.0, y))) es.1 in
      inl (
        local_of (x.0, (ds.0, es.0)),
        sym (any_core x.0 ds.0 es.0) ∙ (same ∙ q),
        inr (inr (inr (inr (inl (
          (x.0, (ds.0, es.0)),
          refl,
          record {
            front = j.front;
            back = j.back;
            left = j.left;
            right = record {
              front = s.front;
              back = s.back;
              left = ds.2;
              right = record {
                front = u.front;
                back = u.back;
                left = u.left;
                right = record { front = v.front; back = v.back; left = subst (λ (y : Changes). decs_form (dec_on h b) y es.0 v.front) on es.2; right = v.right; whole = v.whole };
                whole = u.whole;
              };
              whole = s.whole;
            };
            whole = j.whole;
          },
        ))))),
      )

  any_to : (h : ℕ) (b : Bool) (t : Sd) (w : List Token) → AnyD (at_height h b) t w → StrDecD (at_height h b) t w
  any_to zero b t w d = absurd (no_room b d.0 w d.2.1 d.2.0)
  any_to (suc h) b t w d = other_to h b d.0 t w (cores d.0.1.0) (cores d.0.1.1) refl refl d.1 d.2.1

  pub strdec_to : (k : Room) (t : Sd) (w : List Token) → ReadD k t w → StrDecD k t w
  strdec_to k t w (inl d) = any_to k.height k.clashes t w d
  strdec_to k t w (inr (inl d)) = inr (inl d)
  strdec_to k t w (inr (inr d)) = inl (d.0, d.1, d.2.1)

  -- ---- from the grammar

  -- a phrase behind another word does not begin with `local`
  other_word : {S T E : Type 0} (k : ℕ) → apart (just k) (just LOCAL) ≡ true → (f : Place × S → T) (D : S → List Token → Type 0) (t : T) (w : List Token) → As f (Both (Shows (the k)) D) t w → head_is (is LOCAL) (first w) ≡ true → E
  other_word k e f D t w d i =
      let j = d.2 in
      let no = head_other (is k) (is LOCAL) (λ c x. is_just plain_fix LOCAL c ∙ apart_is plain_fix plain_fix (just k) (just LOCAL) e c (sym (is_just plain_fix k c) ∙ x)) (first j.front)
      (ap (λ (z : List Token). head_is (is k) (first z)) j.left.whole ∙ shown_test (is k) place j.left.token d.0.0 j.left.shows) in
      let head : head_is (is LOCAL) (first w) ≡ head_is (is LOCAL) (first j.front) = ap (λ (z : List Token). head_is (is LOCAL) (first z)) (j.whole ∙ ap (λ (z : List Token). z ++ j.back) j.left.whole) ∙ sym (ap (λ (z : List Token). head_is (is LOCAL) (first z)) j.left.whole) in
      let bad : true ≡ false = sym i ∙ (head ∙ no) in
      absurd cc

  abbrev Core : ℕ → Bool → De → List Token → Type 0
  Core h b = LocalD (decs_form (dec_on h b) cs) (λ ds. decs_form (dec_on h b) (afters cs ds))

  is_local : (h : ℕ) (b : Bool) (d : De) (w : List Token) → head_is (is LOCAL) (first w) ≡ true → dec_on (suc h) b cs d w → Core h b d w
  unfolding dec_on
  is_local h b d w i (inl a) = other_word OPEN refl _ _ d w a i
  is_local h b d w i (inr (inl a)) = other_word INFIX refl _ _ d w a i
  is_local h b d w i (inr (inr (inl a))) = other_word INFIXR refl _ _ d w a i
  is_local h b d w i (inr (inr (inr (inl a)))) = other_word NONFIX refl _ _ d w a i
  is_local h b d w i (inr (inr (inr (inr (inl a))))) = a
  is_local h b d w i (inr (inr (inr (inr (inr (inl a)))))) = other_word DATATYPE refl _ _ d w a i
  is_local h b d w i (inr (inr (inr (inr (inr (inr (inl a))))))) = other_word TYPE refl _ _ d w a i
  is_local h b d w i (inr (inr (inr (inr (inr (inr (inr (inl a)))))))) = other_word EXCEPTION refl _ _ d w a i
  is_local h b d w i (inr (inr (inr (inr (inr (inr (inr (inr (inl a))))))))) = other_word ABSTYPE refl _ _ d w a i
  is_local h b d w i (inr (inr (inr (inr (inr (inr (inr (inr (inr (inl a)))))))))) = other_word VAL refl _ _ d w a i
  is_local h b d w i (inr (inr (inr (inr (inr (inr (inr (inr (inr (inr a)))))))))) = other_word FUN refl _ _ d w a i

  local_from : (h : ℕ) (b : Bool) (d : De) (t : Sd) (w : List Token) → core_of d ≡ t → head_is (is LOCAL) (first w) ≡ true → dec_on h b cs d w → AnyD (at_height h b) t w
  unfolding dec_on
  local_from zero b d t w e i a = absurd a
  local_from (suc h) b d t w e i a =
      let l = is_local h b d w i a in
      let ds = l.0.1.0 in
      let es = l.0.1.1 in
      let j = l.2 in
      let s = j.right in
      let u = s.right in
      let v = u.right in
      let x : Local = (l.0.0, (map core_of ds, map core_of es)) in
      let parts : PartsD (at_height (suc h) b) x w = record {
        front = j.front;
        back = j.back;
        left = j.left;
        right = record {
          front = s.front;
          back = s.back;
          left = row_up h b cs ds s.front s.left;
          right = record {
            front = u.front;
            back = u.back;
            left = u.left;
            right = record {
              front = v.front;
              back = v.back;
              left = row_up h b (str_afters cs (map core_of ds)) es v.front (subst (λ (y : Changes). decs_form (dec_on h b) y es v.front) (sym (afters_core cs ds)) v.left);
              right = v.right;
              whole = v.whole;
            };
            whole = u.whole;
          };
          whole = s.whole;
        };
        whole = j.whole;
      } in
      (x, any_core l.0.0 ds es ∙ (ap core_of l.1 ∙ e), (pass (at_height (suc h) b) x w (omega arith) parts, parts))

  -- where there is no room there are no members, which are then all of the core
  lowest_core : (b : Bool) (c : Changes) (ts : List Sd) (w : List Token) → strdecs_form (strdec_on 0 b) c ts w → all_core ts ≡ true
  unfolding strdec_on
  lowest_core b c ts w d = subst (λ (ts : List Sd). all_core ts ≡ true) d.1 (go d.0.1 d.2.back d.2.right)
    where
      go : (xs : List Sd) (v : List Token) → Steps str_after (λ x. StrItemD (strdec_on 0 b x)) c xs v → all_core xs ≡ true
      go [] v e = refl
      go (x ∷ xs) v e = absurd e.left.2.left

  beyond_from : (h : ℕ) (b : Bool) (x : Local) (t : Sd) (w : List Token) → local_str_of x ≡ t → beyond_core x ≡ true → PartsD (at_height h b) x w → AnyD (at_height h b) t w
  beyond_from zero b x t w e i j =
      let s = j.right in
      let v = s.right.right in
      let no : false ≡ true = sym (ap not (and_two (all_core x.1.0) (all_core x.1.1) (lowest_core b cs x.1.0 s.front s.left) (lowest_core b (str_afters cs x.1.0) x.1.1 v.front v.left))) ∙ i in
      absurd cc
  beyond_from (suc h) b x t w e i j = (x, any_beyond x (cores x.1.0) (cores x.1.1) refl refl i ∙ e, (pass (at_height (suc h) b) x w (omega arith) j, j))

  pub strdec_from : (k : Room) (t : Sd) (w : List Token) → StrDecD k t w → ReadD k t w
  strdec_from k t w (inl d) = go (head_is (is LOCAL) (first w)) refl
    where
      go : (b : Bool) → head_is (is LOCAL) (first w) ≡ b → ReadD k t w
      go true e = inl (local_from k.height k.clashes d.0 t w d.1 e d.2)
      go false e = inr (inr (d.0, d.1, (e, d.2)))
  strdec_from k t w (inr (inl d)) = inr (inl d)
  strdec_from k t w (inr (inr d)) = inl (beyond_from k.height k.clashes d.0 t w d.1 d.2.0 d.2.1)
