-- A name, and two patterns in parentheses with an operator between them, as atomic patterns in more room, and back.
use Rattle.std.proofs.Common.{◌≡◌, ℕ, zero, suc, max, Bool, true, false, ◌||◌, List, [], ◌∷◌, ◌++◌, Option, Some, None, refl, sym, ap, subst, ◌∙◌, arith, append-nil, inl, inr}
use Rattle.readers.specs.Language.{That, Shows, As, Or, Skip, Close}
use Rattle.readers.specs.Room.{Room, at_height}
use Rattle.readers.specs.Infix.{Left, AboveTop, floor_of}
use Rattle.readers.specs.Forms.{Maybe, Seps}
use Rattle.readers.proofs.Bundle.{Known, mono}
use Rattle.tl_text.specs.declared.place.Place.{Place}
use Rattle.sml_lex.specs.declared.token.Token.{Token}
use Rattle.sml_fix.specs.Fixities.{Settings}
use Rattle.sml_ast.specs.declared.pat.AtPat.{AtPat, out-AtPat, roll-AtPat, out-roll-AtPat}
use Rattle.sml_ast.specs.declared.pat.AtPat.TheOpen.{AtPat-F, Pat-F}
use Rattle.sml_ast.specs.declared.pat.PField.{PField}
use Rattle.sml_ast.specs.declared.pat.Pat.{Pat, out-Pat, roll-Pat, out-roll-Pat}
use Rattle.sml_grammar.specs.Words.{CLOSE_PAREN, COMMA}
use Rattle.sml_grammar.specs.Tokens.{is, long_vid, op_long_vid}
use Rattle.sml_grammar.specs.Types.{Ident, LongIdent}
use Rattle.sml_grammar.specs.Pats.{tight, right, Ap, Fp, Pt, Name, Inside, Operand, Bare, some_bare, bare, at_pat_place, pat_place, at_place_in, id_of, paren_of, inside_in, operand_of, operand_in, infix_of, top, top_in, layer_in, NameD, InsideD, at_form, OperandD, name_on, other_on, at_on, row_on, pat_on, AtR}
use Rattle.sml_grammar.proofs.Pats.{at_exact}
use Rattle.sml_grammar_exp.specs.Binds.{Vid, VidD}
use Rattle.sml_grammar_exp.specs.Clauses.{Pair, Parens, PairD, ParensD}
use Rattle.sml_grammar_exp.specs.ReadClauses.{Front}
use Rattle.sml_grammar_exp.proofs.Short.{lengthened, shortened, op_lengthened, op_shortened}
use Rattle.sml_grammar_exp.proofs.Fronts.{up}

-- a name, or two patterns in parentheses
abbrev pub FrontD : Settings → (Ap → List Token → Type 0) → Front → List Token → Type 0
FrontD fix A = Or (As Front.Named (VidD fix)) (As Front.Parted (ParensD fix A))

-- ---- as atomic patterns

abbrev named : Vid → Name
named v = ((v.0, v.1, (v.2.0, v.2.1 ∷ [])), 1)

abbrev leaf : Ap → Pt
leaf a = operand_of (Operand.Atom a)

abbrev joined : Pair → Pt
joined x = infix_of (leaf x.0) x.1.0 (leaf x.1.1)

abbrev pub emb : Front → Ap
emb (Front.Named v) = id_of (named v)
emb (Front.Parted x) = paren_of (x.0, Inside.Parts (joined x.1, None))

name_as : (fix : Settings) (v : Vid) (w : List Token) → VidD fix v w → NameD fix (named v) w
name_as fix v w (inl d) = subst (λ (v : Vid). NameD fix (named v) w) d.1 (inr ((d.0.0, (d.0.1.0, d.0.1.1 ∷ [])), refl, record { front = d.2.front; back = d.2.back; left = d.2.left; right = op_lengthened d.0.1 d.2.back d.2.right; whole = d.2.whole }))
name_as fix v w (inr d) = subst (λ (v : Vid). NameD fix (named v) w) d.1 (inl ((d.0.0, d.0.1 ∷ []), refl, lengthened fix d.0 w d.2))

-- an atomic pattern as a row
operand_as : (fix : Settings) (h : ℕ) (b : Bool) (a : Ap) (w : List Token) → at_on h b fix a w → As operand_of (OperandD (name_on h fix) (at_on h b fix) (other_on h b fix)) (leaf a) w
unfolding at_on name_on other_on
operand_as fix zero b a w d = absurd d
operand_as fix (suc h) b a w (inl d) =
    let n : Name = d.0 in
    let tree : operand_of (Operand.Con (n, None)) ≡ leaf (id_of n) = same n in
    (Operand.Con (n, None), tree ∙ ap leaf d.1, inl ((n, None), refl, record { front = w; back = []; left = d.2; right = inr (refl, refl); whole = sym (append-nil w) }))
  where
    same : (n : Name) → operand_of (Operand.Con (n, None)) ≡ leaf (id_of n)
    same n =
        let p : n.0.0 ≡ at_pat_place (id_of n).0 = sym (ap at_place_in (out-roll-AtPat (AtPat-F.PId n.0.0 n.0.1 n.0.2))) in
        let m : max n.1 0 ≡ n.1 = omega arith in
        ap (λ (x : Place). (roll-Pat (Pat-F.PAtom x (id_of n).0), suc (max n.1 0))) p ∙ ap (λ (m : ℕ). (roll-Pat (Pat-F.PAtom (at_pat_place (id_of n).0) (id_of n).0), suc m)) m
operand_as fix (suc h) b a w (inr d) = (Operand.Atom a, refl, inr (a, refl, d))

row_as : (fix : Settings) (h : ℕ) (b : Bool) (a : Ap) (w : List Token) → at_on h b fix a w → row_on (suc h) b fix (leaf a) w
unfolding row_on
row_as fix h b a w d = inl (operand_as fix h b a w d)

leaf_top : (a : Ap) → top (leaf a) ≡ None
leaf_top a = ap top_in (out-roll-Pat (Pat-F.PAtom (at_pat_place a.0) a.0))

or_true : (b : Bool) → (b || true) ≡ true
or_true true = refl
or_true false = refl

pair_as : (fix : Settings) (h : ℕ) (b : Bool) (x : Pair) (w : List Token) → PairD fix (at_on h b fix) x w → pat_on (suc (suc h)) b fix (joined x) w
unfolding pat_on
pair_as fix h b x w d =
    let i = d.right in
    inl (inl (inr (
      (leaf x.0, (x.1.0, leaf x.1.1)),
      refl,
      (
        subst (λ (o : Option Ident). Left (tight fix) (right fix) b o x.1.0) (sym (leaf_top x.0)) (refl, or_true b),
        subst (λ (o : Option Ident). AboveTop (tight fix) (right fix) b (floor_of (tight fix) (right fix) x.1.0) o) (sym (leaf_top x.1.1)) tt,
        record { front = d.front; back = d.back; left = row_as fix h b x.0 d.front d.left; right = record { front = i.front; back = i.back; left = i.left; right = row_as fix h b x.1.1 i.back i.right; whole = i.whole }; whole = d.whole },
      ),
    )))

pub embeds : (fix : Settings) (r : Room) (x : Front) (w : List Token) → FrontD fix (AtR fix r) x w → AtR fix (up r) (emb x) w
unfolding at_on
embeds fix r x w (inl d) = subst (λ (x : Front). AtR fix (up r) (emb x) w) d.1 (inl (named d.0, refl, name_as fix d.0 w d.2))
embeds fix r x w (inr d) =
    let j = d.2 in
    let c = j.right in
    subst (λ (x : Front). AtR fix (up r) (emb x) w) d.1
    (inr (inr (inr (inr (inr (
      (d.0.0, Inside.Parts (joined d.0.1, None)),
      refl,
      record {
        front = j.front;
        back = j.back;
        left = j.left;
        right = inr ((joined d.0.1, None), refl, record { front = c.front; back = c.back; left = pair_as fix r.height r.clashes d.0.1 c.front c.left; right = inl (tt, refl, c.right); whole = c.whole });
        whole = j.whole;
      },
    ))))))

-- ---- and back

abbrev sel_id : AtPat-F AtPat PField Pat → Option LongIdent
sel_id (AtPat-F.PId p o x) = Some x
sel_id _ = None

abbrev sel_paren : AtPat-F AtPat PField Pat → Option Pat
sel_paren (AtPat-F.PParen p q) = Some q
sel_paren _ = None

abbrev sel_infix : Pat-F AtPat PField Pat → Option (Pat × (Ident × Pat))
sel_infix (Pat-F.PInfix p l v r) = Some (l, (v, r))
sel_infix _ = None

abbrev sel_atom : Pat-F AtPat PField Pat → Option AtPat
sel_atom (Pat-F.PAtom p a) = Some a
sel_atom _ = None

abbrev the_some : {T : Type 0} → T → Option T
the_some x = Some x

some_is : {T : Type 0} {x y : T} → the_some x ≡ the_some y → x ≡ y
some_is e = cc

not_some : {P T : Type 0} {x : T} → None ≡ the_some x → P
not_some e = absurd cc

-- what the trees show
id_is : (f g : AtPat-F AtPat PField Pat) → roll-AtPat f ≡ roll-AtPat g → sel_id f ≡ sel_id g
id_is f g e = sym (ap sel_id (out-roll-AtPat f)) ∙ (ap (λ (x : AtPat). sel_id (out-AtPat x)) e ∙ ap sel_id (out-roll-AtPat g))

paren_is : (f g : AtPat-F AtPat PField Pat) → roll-AtPat f ≡ roll-AtPat g → sel_paren f ≡ sel_paren g
paren_is f g e = sym (ap sel_paren (out-roll-AtPat f)) ∙ (ap (λ (x : AtPat). sel_paren (out-AtPat x)) e ∙ ap sel_paren (out-roll-AtPat g))

infix_is : (f g : Pat-F AtPat PField Pat) → roll-Pat f ≡ roll-Pat g → sel_infix f ≡ sel_infix g
infix_is f g e = sym (ap sel_infix (out-roll-Pat f)) ∙ (ap (λ (x : Pat). sel_infix (out-Pat x)) e ∙ ap sel_infix (out-roll-Pat g))

atom_is : (f g : Pat-F AtPat PField Pat) → roll-Pat f ≡ roll-Pat g → sel_atom f ≡ sel_atom g
atom_is f g e = sym (ap sel_atom (out-roll-Pat f)) ∙ (ap (λ (x : Pat). sel_atom (out-Pat x)) e ∙ ap sel_atom (out-roll-Pat g))

tree_of : {T : Type 0} {x y : T × ℕ} → x ≡ y → x.0 ≡ y.0
tree_of e = ap (λ (z : _ × ℕ). z.0) e

at_higher : (fix : Settings) (h : ℕ) (b : Bool) (a : Ap) (w : List Token) → at_on h b fix a w → at_on (suc h) b fix a w
at_higher fix h b a w d = let P = at_exact fix Known.Refusals 0 in mono P.part (at_height h b) (at_height (suc h) b) a w tt (omega arith, λ e. e) d

name_at : (fix : Settings) (h : ℕ) (b : Bool) (n : Name) (w : List Token) → name_on h fix n w → at_on h b fix (id_of n) w
unfolding name_on at_on
name_at fix zero b n w d = absurd d
name_at fix (suc h) b n w d = inl (n, refl, d)

other_at : (fix : Settings) (h : ℕ) (b : Bool) (a : Ap) (w : List Token) → other_on h b fix a w → at_on h b fix a w
unfolding other_on at_on
other_at fix zero b a w d = absurd d
other_at fix (suc h) b a w d = inr d

module _ (fix : Settings) (h : ℕ) (b : Bool) where
  -- an operand that is an atom is an atomic pattern
  operand_atom : (o : Operand) (p : Place) (a : AtPat) (w : List Token) → OperandD (name_on h fix) (at_on h b fix) (other_on h b fix) o w → operand_in o ≡ roll-Pat (Pat-F.PAtom p a) → (x : Ap) × at_on h b fix x w
  operand_atom o p a w (inl ((n, None), i, j)) e = by_back j.right
    where
      by_back : Maybe (at_on h b fix) None j.back → (x : Ap) × at_on h b fix x w
      by_back (inl y) = let n : Some y.0 ≡ None = y.1 in absurd cc
      by_back (inr y) = (id_of n, name_at fix h b n w (subst (name_on h fix n) (sym (j.whole ∙ (ap (λ (z : List Token). j.front ++ z) y.1 ∙ append-nil j.front))) j.left))
  operand_atom o p a w (inl ((n, Some x), i, j)) e = not_some (atom_is _ _ (ap operand_in i ∙ e))
  operand_atom o p a w (inr (x, i, d)) e = (x, other_at fix h b x w d)

  operand_infix : {P : Type 0} (o : Operand) (f : Pat × (Ident × Pat)) (g : Pat-F AtPat PField Pat) → sel_infix g ≡ Some f → operand_in o ≡ roll-Pat g → P
  operand_infix (Operand.Con (n, None)) f g s e = not_some (infix_is _ g e ∙ s)
  operand_infix (Operand.Con (n, Some x)) f g s e = not_some (infix_is _ g e ∙ s)
  operand_infix (Operand.Atom x) f g s e = not_some (infix_is _ g e ∙ s)

-- a row that is an atom is an atomic pattern
row_atom : (fix : Settings) (h : ℕ) (b : Bool) (l : Pt) (p : Place) (a : AtPat) (w : List Token) → row_on h b fix l w → l.0 ≡ roll-Pat (Pat-F.PAtom p a) → (x : Ap) × at_on h b fix x w
unfolding row_on
row_atom fix zero b l p a w d e = absurd d
row_atom fix (suc h) b l p a w (inl (o, i, d)) e = let y = operand_atom fix h b o p a w d (tree_of i ∙ e) in (y.0, at_higher fix h b y.0 w y.1)
row_atom fix (suc h) b l p a w (inr d) e = not_some (atom_is _ _ (tree_of d.1 ∙ e))

no_layer : {P : Type 0} (p : Place) (x : Option Bare) (q : Pat) (f : Pat × (Ident × Pat)) (g : Pat-F AtPat PField Pat) → some_bare x ≡ true → sel_infix g ≡ Some f → layer_in p x q ≡ roll-Pat g → P
no_layer p None q f g b s e = absurd cc
no_layer p (Some x) q f g b s e = not_some (infix_is _ g e ∙ s)

-- a pattern of two atoms with an operator between them is two atomic patterns
pat_pair : (fix : Settings) (h : ℕ) (b : Bool) (t : Pt) (l r : Ap) (p : Place) (v : Ident) (w : List Token) → pat_on h b fix t w → t.0 ≡ roll-Pat (Pat-F.PInfix p (leaf l).0 v (leaf r).0) → (x : Pair) × PairD fix (at_on h b fix) x w
unfolding pat_on
pat_pair fix zero b t l r p v w d e = absurd d
pat_pair fix (suc h) b t l r p v w (inl (inl (inl (o, i, d)))) e = operand_infix fix h b o ((leaf l).0, (v, (leaf r).0)) _ refl (tree_of i ∙ e)
pat_pair fix (suc h) b t l r p v w (inl (inl (inr d))) e =
    let same = some_is (infix_is _ _ (tree_of d.1 ∙ e)) in
    let j = d.2.2 in
    let i = j.right in
    let x = row_atom fix h b d.0.0 (at_pat_place l.0) l.0 j.front j.left (ap (λ (z : Pat × (Ident × Pat)). z.0) same) in
    let y = row_atom fix h b d.0.1.1 (at_pat_place r.0) r.0 i.back i.right (ap (λ (z : Pat × (Ident × Pat)). z.1.1) same) in (
      (x.0, (d.0.1.0, y.0)),
      record { front = j.front; back = j.back; left = at_higher fix h b x.0 j.front x.1; right = record { front = i.front; back = i.back; left = i.left; right = at_higher fix h b y.0 i.back y.1; whole = i.whole }; whole = j.whole },
    )
pat_pair fix (suc h) b t l r p v w (inl (inr d)) e = not_some (infix_is _ _ (tree_of d.1 ∙ e))
pat_pair fix (suc h) b t l r p v w (inr d) e = no_layer (pat_place d.0.0.0) (bare d.0.0) d.0.1.0 ((leaf l).0, (v, (leaf r).0)) _ d.2.0 refl (tree_of d.1 ∙ e)

-- an identifier of one part is a name
name_back : (fix : Settings) (v : Ident) (n : Name) (w : List Token) → NameD fix n w → n.0.2 ≡ (v.0, v.1 ∷ []) → (y : Vid) × VidD fix y w
name_back fix v n w (inl (x, i, d)) e =
    let same : x ≡ (v.0, v.1 ∷ []) = ap (λ (n : Name). n.0.2) i ∙ e in
    ((v.0, false, v), inr (v, refl, shortened fix v w (subst (λ (x : LongIdent). Shows (long_vid fix) x w) same d)))
name_back fix v n w (inr (x, i, j)) e =
    let same : x.1 ≡ (v.0, v.1 ∷ []) = ap (λ (n : Name). n.0.2) i ∙ e in
    ((x.0, true, v), inl ((x.0, v), refl, record { front = j.front; back = j.back; left = j.left; right = op_shortened v j.back (subst (λ (y : LongIdent). Shows op_long_vid y j.back) same j.right); whole = j.whole }))

inside_id : {P : Type 0} (p : Place) (x : Inside) (f : LongIdent) (g : AtPat-F AtPat PField Pat) → sel_id g ≡ Some f → inside_in p x ≡ roll-AtPat g → P
inside_id p Inside.Empty f g s e = not_some (id_is _ g e ∙ s)
inside_id p (Inside.Parts (q, None)) f g s e = not_some (id_is _ g e ∙ s)
inside_id p (Inside.Parts (q, Some qs)) f g s e = not_some (id_is _ g e ∙ s)

module _ (fix : Settings) (h : ℕ) (b : Bool) where
  named_back : (F : Fp → List Token → Type 0) (P : Pt → List Token → Type 0) (v : Vid) (w : List Token) → at_form fix F P (emb (Front.Named v)) w → (y : Vid) × VidD fix y w
  named_back F P v w (inl (n, i, d)) = name_back fix v.2 n w d (some_is (id_is _ _ (tree_of i)))
  named_back F P v w (inr (inl d)) = not_some (id_is _ _ (tree_of d.1))
  named_back F P v w (inr (inr (inl d))) = not_some (id_is _ _ (tree_of d.1))
  named_back F P v w (inr (inr (inr (inl d)))) = not_some (id_is _ _ (tree_of d.1))
  named_back F P v w (inr (inr (inr (inr (inl d))))) = not_some (id_is _ _ (tree_of d.1))
  named_back F P v w (inr (inr (inr (inr (inr d))))) = inside_id d.0.0 d.0.1 (v.2.0, v.2.1 ∷ []) _ refl (tree_of d.1)

  parted_back : (F : Fp → List Token → Type 0) (x : Parens) (w : List Token) → at_form fix F (pat_on h b fix) (emb (Front.Parted x)) w → (y : Parens) × ParensD fix (at_on (suc h) b fix) y w
  parted_back F x w (inl d) = not_some (paren_is _ _ (tree_of d.1))
  parted_back F x w (inr (inl d)) = not_some (paren_is _ _ (tree_of d.1))
  parted_back F x w (inr (inr (inl d))) = not_some (paren_is _ _ (tree_of d.1))
  parted_back F x w (inr (inr (inr (inl d)))) = not_some (paren_is _ _ (tree_of d.1))
  parted_back F x w (inr (inr (inr (inr (inl d))))) = not_some (paren_is _ _ (tree_of d.1))
  parted_back F x w (inr (inr (inr (inr (inr ((p, i), e, j)))))) = by_inside j.right
    where
      by_inside : InsideD (pat_on h b fix) i j.back → (y : Parens) × ParensD fix (at_on (suc h) b fix) y w
      by_inside (inl (u, o, d)) = not_some (paren_is _ _ (ap (λ (i : Inside). inside_in p i) o ∙ tree_of e))
      by_inside (inr ((q, m), o, k)) = by_more k.right
        where
          by_more : Or (As (λ (u : Unit {0}). None) (λ (u : Unit {0}). That (is CLOSE_PAREN))) (As (λ x. Some x) (Skip (is COMMA) (Close (Seps (is COMMA) (pat_on h b fix)) (is CLOSE_PAREN)))) m k.back → (y : Parens) × ParensD fix (at_on (suc h) b fix) y w
          by_more (inl (u, l, d)) =
              let inner : inside_in p (Inside.Parts (q, None)) ≡ (emb (Front.Parted x)).0 = ap (λ (m : Option (List Pt)). inside_in p (Inside.Parts (q, m))) l ∙ (ap (λ (i : Inside). inside_in p i) o ∙ tree_of e) in
              let y = pat_pair fix h b q x.1.0 x.1.1.1 (pat_place (leaf x.1.0).0) x.1.1.0 k.front k.left (some_is (paren_is _ _ inner)) in
              let z = y.1 in
              let r = z.right in (
                (p, y.0),
                record {
                  front = j.front;
                  back = j.back;
                  left = j.left;
                  right = record {
                    front = k.front;
                    back = k.back;
                    left = record { front = z.front; back = z.back; left = at_higher fix h b y.0.0 z.front z.left; right = record { front = r.front; back = r.back; left = r.left; right = at_higher fix h b y.0.1.1 r.back r.right; whole = r.whole }; whole = z.whole };
                    right = d;
                    whole = k.whole;
                  };
                  whole = j.whole;
                },
              )
          by_more (inr (qs, l, d)) =
              let inner : inside_in p (Inside.Parts (q, Some qs)) ≡ (emb (Front.Parted x)).0 = ap (λ (m : Option (List Pt)). inside_in p (Inside.Parts (q, m))) l ∙ (ap (λ (i : Inside). inside_in p i) o ∙ tree_of e) in
              not_some (paren_is _ _ inner)

back_by : (fix : Settings) (h : ℕ) (b : Bool) (x : Front) (w : List Token) → at_on h b fix (emb x) w → (y : Front) × FrontD fix (at_on h b fix) y w
unfolding at_on
back_by fix zero b x w d = absurd d
back_by fix (suc h) b (Front.Named v) w d = let y = named_back fix h b _ _ v w d in (Front.Named y.0, inl (y.0, refl, y.1))
back_by fix (suc h) b (Front.Parted x) w d = let y = parted_back fix h b _ x w d in (Front.Parted y.0, inr (y.0, refl, y.1))

pub inverse : (fix : Settings) (r : Room) (x : Front) (w : List Token) → AtR fix r (emb x) w → (y : Front) × FrontD fix (AtR fix r) y w
inverse fix r x w d = back_by fix r.height r.clashes x w d
