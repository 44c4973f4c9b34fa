-- Alternatives of the grammar with their common front written once, as they are read.
use Rattle.std.proofs.Common.{◌≡◌, List, [], ◌∷◌, ◌++◌, Option, Some, None, refl, sym, ap, subst, ◌∙◌, append_assoc, inl, inr}
use Rattle.tl_text.specs.declared.place.Place.{Place}
use Rattle.readers.specs.Language.{Joined, Both, Shows, Row, As, Or, Skip}
use Rattle.readers.specs.Forms.{Maybe, Seps}
use Rattle.sml_lex.specs.declared.token.Token.{Token}
use Rattle.sml_grammar.specs.Words.{AND, DATATYPE, EQUALS, TYPE}
use Rattle.sml_grammar.specs.Tokens.{is, the, tycon}
use Rattle.sml_grammar.specs.Types.{Ident, Tx}
use Rattle.sml_grammar_sig.specs.Descs.{Vars, VarsD, Under, UnderD, Named, NamedD, named_of, Tb, TyBindD, tybind_of, Cs, Dd, DescD, desc_of, Many}
use Rattle.sml_grammar_sig.specs.ReadDescs.{Data, Right, right_of, vars_data}
use Rattle.sml_grammar_sig.specs.Sigs.{Sp, tys_of, syns_of, datas_of, TysD, SynsD, CopyD, DatasD}
use Rattle.sml_grammar_sig.specs.ReadSigs.{Behind, types_of, data_of}
use Rattle.sml_grammar_sig.proofs.Descs.{DescsD, RightD, DataD}

-- ---- what type variables stand before, with more behind it

vars_join : {X Y : Type 0} (D : X → List Token → Type 0) (E : Y → List Token → Type 0) (x : Vars × X) (y : Y) (v w : List Token) → VarsD D x v → E y w → VarsD (Both D E) (x.0, (x.1, y)) (v ++ w)
vars_join D E x y v w (inl d) e =
    let j = d.2 in
    let q = j.right in
    inl (
      (d.0.0, (d.0.1.0, (d.0.1.1, y))),
      ap (λ x. (x.0, (x.1, y))) d.1,
      record {
        front = j.front;
        back = j.back ++ w;
        left = j.left;
        right = record { front = q.front; back = q.back ++ w; left = q.left; right = record { front = q.back; back = w; left = q.right; right = e; whole = refl }; whole = ap (λ (z : List Token). z ++ w) q.whole ∙ append_assoc q.front q.back w };
        whole = ap (λ (z : List Token). z ++ w) j.whole ∙ append_assoc j.front j.back w;
      },
    )
vars_join D E x y v w (inr d) e =
    let j = d.2 in
    inr (
      (d.0.0, (d.0.1, y)),
      ap (λ x. (x.0, (x.1, y))) d.1,
      record {
        front = j.front;
        back = j.back ++ w;
        left = j.left;
        right = record { front = j.back; back = w; left = j.right; right = e; whole = refl };
        whole = ap (λ (z : List Token). z ++ w) j.whole ∙ append_assoc j.front j.back w;
      },
    )

vars_split : {X Y : Type 0} (D : X → List Token → Type 0) (E : Y → List Token → Type 0) (x : Vars × (X × Y)) (w : List Token) → VarsD (Both D E) x w → Joined (VarsD D (x.0, x.1.0)) (E x.1.1) w
vars_split D E x w (inl d) =
    let j = d.2 in
    let q = j.right in
    let r = q.right in
    subst (λ x. Joined (VarsD D (x.0, x.1.0)) (E x.1.1) w) d.1 (record {
      front = j.front ++ (q.front ++ r.front);
      back = r.back;
      left = inl ((d.0.0, (d.0.1.0, d.0.1.1.0)), refl, record { front = j.front; back = q.front ++ r.front; left = j.left; right = record { front = q.front; back = r.front; left = q.left; right = r.left; whole = refl }; whole = refl });
      right = r.right;
      whole = j.whole ∙ (ap (λ (z : List Token). j.front ++ z) (q.whole ∙ (ap (λ (z : List Token). q.front ++ z) r.whole ∙ sym (append_assoc q.front r.front r.back))) ∙ sym (append_assoc j.front (q.front ++ r.front) r.back));
    })
vars_split D E x w (inr d) =
    let j = d.2 in
    let r = j.right in
    subst (λ x. Joined (VarsD D (x.0, x.1.0)) (E x.1.1) w) d.1 (record {
      front = j.front ++ r.front;
      back = r.back;
      left = inr ((d.0.0, d.0.1.0), refl, record { front = j.front; back = r.front; left = j.left; right = r.left; whole = refl });
      right = r.right;
      whole = j.whole ∙ (ap (λ (z : List Token). j.front ++ z) r.whole ∙ sym (append_assoc j.front r.front r.back));
    })

vars_map : {X Y : Type 0} (D : X → List Token → Type 0) (E : Y → List Token → Type 0) (x : Vars × X) (y : Y) (w : List Token) → ((v : List Token) → D x.1 v → E y v) → VarsD D x w → VarsD E (x.0, y) w
vars_map D E x y w f (inl d) =
    let j = d.2 in
    let q = j.right in
    inl (
      (d.0.0, (d.0.1.0, y)),
      ap (λ x. (x.0, y)) d.1,
      record {
        front = j.front;
        back = j.back;
        left = j.left;
        right = record { front = q.front; back = q.back; left = q.left; right = f q.back (subst (λ x. D x.1 q.back) d.1 q.right); whole = q.whole };
        whole = j.whole;
      },
    )
vars_map D E x y w f (inr d) =
    let j = d.2 in
    inr ((d.0.0, y), ap (λ x. (x.0, y)) d.1, record { front = j.front; back = j.back; left = j.left; right = f j.back (subst (λ x. D x.1 j.back) d.1 j.right); whole = j.whole })

under_join : {X Y : Type 0} (D : X → List Token → Type 0) (E : Y → List Token → Type 0) (u : Under X) (y : Y) (v w : List Token) → UnderD D u v → E y w → UnderD (Both D E) (u.0, (u.1, y)) (v ++ w)
under_join D E u y v w (inl d) e = inl ((d.0.0, (d.0.1, y)), ap (λ u. (u.0, (u.1, y))) d.1, vars_join D E d.0 y v w d.2 e)
under_join D E u y v w (inr d) e = inr ((d.0, y), ap (λ u. (u.0, (u.1, y))) d.1, record { front = v; back = w; left = d.2; right = e; whole = refl })

under_split : {X Y : Type 0} (D : X → List Token → Type 0) (E : Y → List Token → Type 0) (u : Under (X × Y)) (w : List Token) → UnderD (Both D E) u w → Joined (UnderD D (u.0, u.1.0)) (E u.1.1) w
under_split D E u w (inl d) =
    let j = vars_split D E d.0 w d.2 in
    subst (λ u. Joined (UnderD D (u.0, u.1.0)) (E u.1.1) w) d.1 (record { front = j.front; back = j.back; left = inl ((d.0.0, d.0.1.0), refl, j.left); right = j.right; whole = j.whole })
under_split D E u w (inr d) =
    let j = d.2 in
    subst (λ u. Joined (UnderD D (u.0, u.1.0)) (E u.1.1) w) d.1 (record { front = j.front; back = j.back; left = inr (d.0.0, refl, j.left); right = j.right; whole = j.whole })

-- ---- types

-- {and [tyvarseq] tycon}+  |  = Ty {and [tyvarseq] tycon = Ty}
abbrev pub BehindD : (Tx → List Token → Type 0) → Behind → List Token → Type 0
BehindD T =
    Or (As Behind.Names (Many (Skip (is AND) NamedD)))
    (As Behind.Equal (Both (Skip (is EQUALS) T) (Row (Skip (is AND) (TyBindD T)))))

-- TySpec, SynSpec: the first name, and what is behind it
abbrev pub TypesD : (Tx → List Token → Type 0) → Sp → List Token → Type 0
TypesD T = As types_of (Both (Shows (the TYPE)) (Both NamedD (Maybe (BehindD T))))

maybe_some : {T : Type 0} (D : T → List Token → Type 0) (x : T) (w : List Token) → Maybe D (Some x) w → D x w
maybe_some D x w (inl d) = subst (λ y. D y w) (let same : Some d.0 ≡ Some x = d.1 in cc) d.2
maybe_some D x w (inr d) = let no : None ≡ Some x = d.0 in absurd cc

maybe_none : {T : Type 0} (D : T → List Token → Type 0) (w : List Token) → Maybe D None w → w ≡ []
maybe_none D w (inl d) = let no : Some d.0 ≡ None = d.1 in absurd cc
maybe_none D w (inr d) = d.1

pub types_to : (T : Tx → List Token → Type 0) (t : Sp) (w : List Token) → TypesD T t w → Or TysD (SynsD T) t w
types_to T t w d = go d.0.0 d.0.1.0 d.0.1.1 d.1 d.2
  where
    names : (p : Place) (x : Named) (xs : List Named) → types_of (p, (x, Some (Behind.Names xs))) ≡ t → (j : Joined (Shows (the TYPE) p) (Joined (NamedD x) (Maybe (BehindD T) (Some (Behind.Names xs)))) w) → Or TysD (SynsD T) t w
    names p x xs e j = each (maybe_some (BehindD T) (Behind.Names xs) j.right.back j.right.right)
      where
        each : BehindD T (Behind.Names xs) j.right.back → Or TysD (SynsD T) t w
        each (inl a) =
            let m : Many (Skip (is AND) NamedD) xs j.right.back = subst (λ xs. Many (Skip (is AND) NamedD) xs j.right.back) (let same : Behind.Names a.0 ≡ Behind.Names xs = a.1 in cc) a.2 in
            let row : Row (Skip (is AND) NamedD) xs j.right.back = subst (λ xs. Row (Skip (is AND) NamedD) xs j.right.back) m.1 m.2 in
            inl ((p, x ∷ xs), e, record { front = j.front; back = j.back; left = j.left; right = ((x, xs), refl, record { front = j.right.front; back = j.right.back; left = j.right.left; right = row; whole = j.right.whole }); whole = j.whole })
        each (inr a) = let no : Behind.Equal a.0 ≡ Behind.Names xs = a.1 in absurd cc

    equal : (p : Place) (x : Named) (z : Tx × List Tb) → types_of (p, (x, Some (Behind.Equal z))) ≡ t → (j : Joined (Shows (the TYPE) p) (Joined (NamedD x) (Maybe (BehindD T) (Some (Behind.Equal z)))) w) → Or TysD (SynsD T) t w
    equal p x z e j = each (maybe_some (BehindD T) (Behind.Equal z) j.right.back j.right.right)
      where
        each : BehindD T (Behind.Equal z) j.right.back → Or TysD (SynsD T) t w
        each (inl a) = let no : Behind.Names a.0 ≡ Behind.Equal z = a.1 in absurd cc
        each (inr a) =
            let q = j.right in
            let r : Joined (Skip (is EQUALS) T z.0) (Row (Skip (is AND) (TyBindD T)) z.1) q.back = subst (λ (z : Tx × List Tb). Joined (Skip (is EQUALS) T z.0) (Row (Skip (is AND) (TyBindD T)) z.1) q.back) (let same : Behind.Equal a.0 ≡ Behind.Equal z = a.1 in cc) a.2 in
            let u = q.left.0 in
            let b : Tb = tybind_of (u.0, (u.1, z.0)) in
            let first : TyBindD T b (q.front ++ r.front) = ((u.0, (u.1, z.0)), refl, under_join (Shows tycon) (Skip (is EQUALS) T) u z.0 q.front r.front q.left.2 r.left) in
            inr (
              (p, b ∷ z.1),
              ap (λ x. types_of (p, (x, Some (Behind.Equal z)))) q.left.1 ∙ e,
              record {
                front = j.front;
                back = j.back;
                left = j.left;
                right = ((b, z.1), refl, record { front = q.front ++ r.front; back = r.back; left = first; right = r.right; whole = q.whole ∙ (ap (λ (z : List Token). q.front ++ z) r.whole ∙ sym (append_assoc q.front r.front r.back)) });
                whole = j.whole;
              },
            )

    go : (p : Place) (x : Named) (y : Option Behind) → types_of (p, (x, y)) ≡ t → Joined (Shows (the TYPE) p) (Joined (NamedD x) (Maybe (BehindD T) y)) w → Or TysD (SynsD T) t w
    go p x None e j =
        let q = j.right in
        inl ((p, x ∷ []), e, record { front = j.front; back = j.back; left = j.left; right = ((x, []), refl, record { front = q.front; back = q.back; left = q.left; right = maybe_none (BehindD T) q.back q.right; whole = q.whole }); whole = j.whole })
    go p x (Some (Behind.Names xs)) e j = names p x xs e j
    go p x (Some (Behind.Equal z)) e j = equal p x z e j

pub types_from : (T : Tx → List Token → Type 0) (t : Sp) (w : List Token) → Or TysD (SynsD T) t w → TypesD T t w
types_from T t w (inl d) = go s.0.0 s.0.1 s.1 s.2
  where
    p : Place
    p = d.0.0

    s : Seps (is AND) NamedD d.0.1 d.2.back
    s = d.2.right

    go : (x : Named) (ys : List Named) → x ∷ ys ≡ d.0.1 → Joined (NamedD x) (Row (Skip (is AND) NamedD) ys) d.2.back → TypesD T t w
    go x [] e q = ((p, (x, None)), ap (λ xs. tys_of (p, xs)) e ∙ d.1, record { front = d.2.front; back = d.2.back; left = d.2.left; right = record { front = q.front; back = q.back; left = q.left; right = inr (refl, q.right); whole = q.whole }; whole = d.2.whole })
    go x (y ∷ ys) e q = (
      (p, (x, Some (Behind.Names (y ∷ ys)))),
      ap (λ xs. tys_of (p, xs)) e ∙ d.1,
      record {
        front = d.2.front;
        back = d.2.back;
        left = d.2.left;
        right = record { front = q.front; back = q.back; left = q.left; right = inl (Behind.Names (y ∷ ys), refl, inl (y ∷ ys, refl, ((y, ys), refl, q.right))); whole = q.whole };
        whole = d.2.whole;
      },
    )
types_from T t w (inr d) =
    let p = d.0.0 in
    let s = d.2.right in
    let q = s.2 in
    let bs = s.0.1 in
    let u = q.left.0 in
    let r = under_split (Shows tycon) (Skip (is EQUALS) T) u q.front q.left.2 in
    let z : Tx × List Tb = (u.1.1, bs) in (
      (p, (named_of (u.0, u.1.0), Some (Behind.Equal z))),
      ap (λ b. syns_of (p, b ∷ bs)) q.left.1 ∙ (ap (λ xs. syns_of (p, xs)) s.1 ∙ d.1),
      record {
        front = d.2.front;
        back = d.2.back;
        left = d.2.left;
        right = record {
          front = r.front;
          back = r.back ++ q.back;
          left = ((u.0, u.1.0), refl, r.left);
          right = inl (Behind.Equal z, refl, inr (z, refl, record { front = r.back; back = q.back; left = r.right; right = q.right; whole = refl }));
          whole = q.whole ∙ (ap (λ (z : List Token). z ++ q.back) r.whole ∙ append_assoc r.front r.back q.back);
        };
        whole = d.2.whole;
      },
    )

-- ---- datatypes

-- CopySpec, DataSpec: a name, and what is behind it
abbrev pub DataSpecD : (Cs → List Token → Type 0) → Sp → List Token → Type 0
DataSpecD C = As data_of (Both (Shows (the DATATYPE)) (DataD C))

-- a name, a `=` and what is behind it, with further descriptions
longer : (C : Cs → List Token → Type 0) (x : Ident × Cs) (ds : List Dd) (v : List Token) → Both (Both (Shows tycon) (Skip (is EQUALS) C)) (Row (Skip (is AND) (DescD C))) (x, ds) v → Both (Shows tycon) (Skip (is EQUALS) (DescsD C)) (x.0, (x.1, ds)) v
longer C x ds v j =
    let q = j.left in
    let r = q.right in
    record {
      front = q.front;
      back = q.back ++ j.back;
      left = q.left;
      right = record { front = r.front; back = r.back ++ j.back; left = r.left; right = record { front = r.back; back = j.back; left = r.right; right = j.right; whole = refl }; whole = ap (λ (z : List Token). z ++ j.back) r.whole ∙ append_assoc r.front r.back j.back };
      whole = j.whole ∙ (ap (λ (z : List Token). z ++ j.back) q.whole ∙ append_assoc q.front q.back j.back);
    }

shorter : (C : Cs → List Token → Type 0) (x : Ident × (Cs × List Dd)) (v : List Token) → Both (Shows tycon) (Skip (is EQUALS) (DescsD C)) x v → Both (Both (Shows tycon) (Skip (is EQUALS) C)) (Row (Skip (is AND) (DescD C))) ((x.0, x.1.0), x.1.1) v
shorter C x v q =
    let r = q.right in
    let m = r.right in
    record {
      front = q.front ++ (r.front ++ m.front);
      back = m.back;
      left = record { front = q.front; back = r.front ++ m.front; left = q.left; right = record { front = r.front; back = m.front; left = r.left; right = m.left; whole = refl }; whole = refl };
      right = m.right;
      whole = q.whole ∙ (ap (λ (z : List Token). q.front ++ z) (r.whole ∙ (ap (λ (z : List Token). r.front ++ z) m.whole ∙ sym (append_assoc r.front m.front m.back))) ∙ sym (append_assoc q.front (r.front ++ m.front) m.back));
    }

pub datas_to : (C : Cs → List Token → Type 0) (t : Sp) (w : List Token) → DataSpecD C t w → Or CopyD (DatasD C) t w
datas_to C t w d = go d.2.right
  where
    p : Place
    p = d.0.0

    go : DataD C d.0.1 d.2.back → Or CopyD (DatasD C) t w
    go (inl a) = each a.2.right.right
      where
        each : RightD C a.0.1 a.2.right.back → Or CopyD (DatasD C) t w
        each (inl c) = inl (
          (p, (a.0.0, c.0)),
          ap (λ r. data_of (p, right_of (a.0.0, r))) c.1 ∙ (ap (λ x. data_of (p, x)) a.1 ∙ d.1),
          record {
            front = d.2.front;
            back = d.2.back;
            left = d.2.left;
            right = record { front = a.2.front; back = a.2.back; left = a.2.left; right = record { front = a.2.right.front; back = a.2.right.back; left = a.2.right.left; right = c.2; whole = a.2.right.whole }; whole = a.2.whole };
            whole = d.2.whole;
          },
        )
        each (inr c) =
            let b : Dd = desc_of (None, (a.0.0, c.0.0)) in
            let j = shorter C (a.0.0, c.0) d.2.back (record { front = a.2.front; back = a.2.back; left = a.2.left; right = record { front = a.2.right.front; back = a.2.right.back; left = a.2.right.left; right = c.2; whole = a.2.right.whole }; whole = a.2.whole }) in
            inr (
              (p, b ∷ c.0.1),
              ap (λ r. data_of (p, right_of (a.0.0, r))) c.1 ∙ (ap (λ x. data_of (p, x)) a.1 ∙ d.1),
              record {
                front = d.2.front;
                back = d.2.back;
                left = d.2.left;
                right = ((b, c.0.1), refl, record { front = j.front; back = j.back; left = ((None, (a.0.0, c.0.0)), refl, inr ((a.0.0, c.0.0), refl, j.left)); right = j.right; whole = j.whole });
                whole = d.2.whole;
              },
            )
    go (inr a) =
        let x = a.0.1 in
        let b : Dd = desc_of (Some a.0.0, (x.0, x.1.0)) in
        let j = vars_split (Both (Shows tycon) (Skip (is EQUALS) C)) (Row (Skip (is AND) (DescD C))) (a.0.0, ((x.0, x.1.0), x.1.1)) d.2.back
        (vars_map (Both (Shows tycon) (Skip (is EQUALS) (DescsD C))) (Both (Both (Shows tycon) (Skip (is EQUALS) C)) (Row (Skip (is AND) (DescD C)))) a.0 ((x.0, x.1.0), x.1.1) d.2.back (λ v q. shorter C x v q) a.2) in
        inr (
          (p, b ∷ x.1.1),
          ap (λ x. data_of (p, x)) a.1 ∙ d.1,
          record {
            front = d.2.front;
            back = d.2.back;
            left = d.2.left;
            right = ((b, x.1.1), refl, record { front = j.front; back = j.back; left = ((Some a.0.0, (x.0, x.1.0)), refl, inl ((a.0.0, (x.0, x.1.0)), refl, j.left)); right = j.right; whole = j.whole });
            whole = d.2.whole;
          },
        )

pub datas_from : (C : Cs → List Token → Type 0) (t : Sp) (w : List Token) → Or CopyD (DatasD C) t w → DataSpecD C t w
datas_from C t w (inl d) =
    let j = d.2 in
    let q = j.right in
    let r = q.right in
    let x = d.0.1 in (
      (d.0.0, Data.Copied x),
      d.1,
      record {
        front = j.front;
        back = j.back;
        left = j.left;
        right = inl ((x.0, Right.Copies x.1), refl, record { front = q.front; back = q.back; left = q.left; right = record { front = r.front; back = r.back; left = r.left; right = inl (x.1, refl, r.right); whole = r.whole }; whole = q.whole });
        whole = j.whole;
      },
    )
datas_from C t w (inr d) = go q.left.2
  where
    p : Place
    p = d.0.0

    s : Seps (is AND) (DescD C) d.0.1 d.2.back
    s = d.2.right

    q : Joined (DescD C s.0.0) (Row (Skip (is AND) (DescD C)) s.0.1) d.2.back
    q = s.2

    same : datas_of (p, desc_of q.left.0 ∷ s.0.1) ≡ t
    same = ap (λ b. datas_of (p, b ∷ s.0.1)) q.left.1 ∙ (ap (λ xs. datas_of (p, xs)) s.1 ∙ d.1)

    go : UnderD (Both (Shows tycon) (Skip (is EQUALS) C)) q.left.0 q.front → DataSpecD C t w
    go (inl v) =
        let x = v.0.1 in
        let all = vars_map (Both (Both (Shows tycon) (Skip (is EQUALS) C)) (Row (Skip (is AND) (DescD C)))) (Both (Shows tycon) (Skip (is EQUALS) (DescsD C))) (v.0.0, (x, s.0.1)) (x.0, (x.1, s.0.1)) (q.front ++ q.back) (λ v j. longer C x s.0.1 v j)
        (vars_join (Both (Shows tycon) (Skip (is EQUALS) C)) (Row (Skip (is AND) (DescD C))) v.0 s.0.1 q.front q.back v.2 q.right) in (
          (p, vars_data (v.0.0, (x.0, (x.1, s.0.1)))),
          ap (λ u. datas_of (p, desc_of u ∷ s.0.1)) v.1 ∙ same,
          record { front = d.2.front; back = d.2.back; left = d.2.left; right = inr ((v.0.0, (x.0, (x.1, s.0.1))), refl, subst (λ (z : List Token). VarsD (Both (Shows tycon) (Skip (is EQUALS) (DescsD C))) (v.0.0, (x.0, (x.1, s.0.1))) z) (sym q.whole) all); whole = d.2.whole },
        )
    go (inr v) =
        let x = v.0 in
        let j = longer C x s.0.1 d.2.back (record { front = q.front; back = q.back; left = v.2; right = q.right; whole = q.whole }) in (
          (p, right_of (x.0, Right.Cons (x.1, s.0.1))),
          ap (λ u. datas_of (p, desc_of u ∷ s.0.1)) v.1 ∙ same,
          record {
            front = d.2.front;
            back = d.2.back;
            left = d.2.left;
            right = inl ((x.0, Right.Cons (x.1, s.0.1)), refl, record { front = j.front; back = j.back; left = j.left; right = record { front = j.right.front; back = j.right.back; left = j.right.left; right = inr ((x.1, s.0.1), refl, j.right.right); whole = j.right.whole }; whole = j.whole });
            whole = d.2.whole;
          },
        )
