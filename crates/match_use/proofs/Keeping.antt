-- What is kept of one row for each of some heads.
use Rattle.std.proofs.Common.{◌≡◌, ℕ, zero, suc, ◌<◌, List, [], ◌∷◌, ◌++◌, map, take, length, get_or, set, true, false, cond, Option, Some, None, refl, sym, ap, ap₂, ◌∙◌, subst, arith, append-nil, add-one, ◌+◌, Vec, Global}
use Rattle.std.specs.Cmp.{both_ways}
use Rattle.std.specs.List.{list_any, cons_option, position, IsDistinct}
use Rattle.std.proofs.lemmas.Bool.{or_parts}
use Rattle.std.proofs.lemmas.List.Elements.{filter_map-append}
use Rattle.std.proofs.lemmas.List.{map-set, get_or-map, length-map}
use Rattle.std.proofs.lemmas.List.Quantifiers.{position-Some}
use Rattle.sml_static.specs.Shapes.{Pattern, Wild, Parts, Cell, Literal, Made, Key}
use Rattle.sml_static.specs.Exhaustive as static
use Rattle.sml_static.specs.Exhaustive.{HeadLiteral, HeadKey, Another, is_same_head, head_of, kept_row}
use Rattle.tl_text.specs.declared.lit.Lit.{Lit}
use Rattle.match_use.specs.Keys.{shared_head}
use Rattle.match_use.specs.Lines.{Line, lines_of, matrices_of}
use Rattle.match_use.specs.Steps.{line_with, kept_line, kept_lines, with_lines, LeftForOwn}
use Rattle.match_use.specs.declared.head.Head.{Head}
use Rattle.match_use.specs.declared.row.Row.{Row}
use Rattle.match_use.proofs.Pigeons.{same_head-sym}
use Rattle.match_use.proofs.Heads.{equal, eq-same, any-same, own_head, none_later}
use Rattle.std.proofs.lemmas.Map.Keys.{IsDistinct-head, IsDistinct-tail}

some_is : {a b : static.Head} → Some a ≡ Some b → a ≡ b
some_is h = cc

same_head-swap : (a b : static.Head) → is_same_head a b ≡ is_same_head b a
same_head-swap a b = both_ways (is_same_head a b) (is_same_head b a) (same_head-sym a b) (same_head-sym b a)

-- a row with a head, by whether the head is alike to another
kept_literal : (h : static.Head) (m : Lit) (ps : List Pattern) → kept_row h (Literal m ∷ ps) ≡ cond (is_same_head (HeadLiteral m) h) (Some ps) None
kept_literal (HeadLiteral l) m ps = ap (λ b. cond b (Some ps) None) (same_head-swap (HeadLiteral l) (HeadLiteral m))
kept_literal (HeadKey k n) m ps = refl
kept_literal Another m ps = refl

kept_made : (h : static.Head) (j : Key) (m : ℕ) (p : Pattern) (ps : List Pattern) → kept_row h (Made j m p ∷ ps) ≡ cond (is_same_head (HeadKey j m) h) (Some (p ∷ ps)) None
kept_made (HeadLiteral l) j m p ps = refl
kept_made (HeadKey k n) j m p ps = ap (λ b. cond b (Some (p ∷ ps)) None) (same_head-swap (HeadKey k n) (HeadKey j m))
kept_made Another j m p ps = refl

own_is : {cs ds : List Pattern} {own g : static.Head} → head_of cs ≡ Some own → cs ≡ ds → head_of ds ≡ Some g → own ≡ g
own_is o q d = some_is (sym o ∙ ap head_of q ∙ d)

pub left_literal : (l : Line) (m : Lit) (ps : List Pattern) → l.columns ≡ Literal m ∷ ps → LeftForOwn l (Some (record { rule = l.rule; columns = ps }))
left_literal l m ps q h own o s =
    ap (λ cs. line_with l.rule (kept_row h cs)) q ∙ ap (line_with l.rule) (kept_literal h m ps)
    ∙ ap (λ b. line_with l.rule (cond b (Some ps) None)) (subst (λ (g : static.Head). is_same_head g h ≡ true) (own_is o q refl) s)

pub left_made : (l : Line) (j : Key) (m : ℕ) (p : Pattern) (ps : List Pattern) → l.columns ≡ Made j m p ∷ ps → LeftForOwn l (Some (record { rule = l.rule; columns = p ∷ ps }))
left_made l j m p ps q h own o s =
    ap (λ cs. line_with l.rule (kept_row h cs)) q ∙ ap (line_with l.rule) (kept_made h j m p ps)
    ∙ ap (λ b. line_with l.rule (cond b (Some (p ∷ ps)) None)) (subst (λ (g : static.Head). is_same_head g h ≡ true) (own_is o q refl) s)

-- nothing is left of a row for a head that is not alike to its own
unlike_row : (h own : static.Head) (cs : List Pattern) → head_of cs ≡ Some own → is_same_head own h ≡ false → kept_row h cs ≡ None
unlike_row h own [] o e = cc
unlike_row h own (Wild ∷ ps) o e = cc
unlike_row h own (Parts p q ∷ ps) o e = cc
unlike_row h own (Cell p ∷ ps) o e = cc
unlike_row h own (Literal m ∷ ps) o e = kept_literal h m ps ∙ ap (λ b. cond b (Some ps) None) (subst (λ (g : static.Head). is_same_head g h ≡ false) (sym (some_is o)) e)
unlike_row h own (Made j m p ∷ ps) o e = kept_made h j m p ps ∙ ap (λ b. cond b (Some (p ∷ ps)) None) (subst (λ (g : static.Head). is_same_head g h ≡ false) (sym (some_is o)) e)

unlike_matrix : (l : Line) (h own : static.Head) (m : List Line) → head_of l.columns ≡ Some own → is_same_head own h ≡ false → m ++ cons_option (kept_line h l) [] ≡ m
unlike_matrix l h own m o e = ap (λ r. m ++ cons_option (line_with l.rule r) []) (unlike_row h own l.columns o e) ∙ append-nil m

-- where none of the heads is alike to the row's, all matrices stay
pub unlike_all : (l : Line) (own : static.Head) (hs : List static.Head) (ms : List (List Line)) → head_of l.columns ≡ Some own → list_any (is_same_head own) hs ≡ false → with_lines l hs ms ≡ ms
unlike_all l own [] ms o e = refl
unlike_all l own (h ∷ hs) [] o e = refl
unlike_all l own (h ∷ hs) (m ∷ ms) o e =
    let a = or_parts (is_same_head own h) (list_any (is_same_head own) hs) e in
    ap₂ (λ x xs. x ∷ xs) (unlike_matrix l h own m o a.0) (unlike_all l own hs ms o a.1)

-- the same of heads as the rows have them
pub unlike_heads : (l : Line) (a : Head) (bs : List Head) (ms : List (List Line)) → Some (shared_head a) ≡ head_of l.columns → list_any (equal a) bs ≡ false → with_lines l (map shared_head bs) ms ≡ ms
unlike_heads l a bs ms o e = unlike_all l (shared_head a) (map shared_head bs) ms (sym o) (sym (any-same a bs (own_head l.columns (shared_head a) o)) ∙ e)

-- where one of the heads is equal to the row's, its matrix alone has one row more
pub placed : (l : Line) (a : Head) (left : Option Line) → Some (shared_head a) ≡ head_of l.columns → LeftForOwn l left → (bs : List Head) (ms : List (List Line)) (i : ℕ) (d : Head) (e : List Line)
    → IsDistinct equal bs → length ms ≡ length bs → i < length bs → equal a (get_or bs i d) ≡ true → ((k : ℕ) → k < i → equal a (get_or bs k d) ≡ false)
    → with_lines l (map shared_head bs) ms ≡ set ms i (get_or ms i e ++ cons_option left [])
placed l a left o f [] ms i d e u n w t z = absurd (omega arith)
placed l a left o f (b ∷ bs) [] i d e u n w t z = absurd (omega arith)
placed l a left o f (b ∷ bs) (m ∷ ms) zero d e u n w t z =
    ap₂ (λ x xs. (m ++ cons_option x []) ∷ xs) (f (shared_head b) (shared_head a) (sym o) (sym (eq-same a b (own_head l.columns (shared_head a) o)) ∙ t))
    (unlike_heads l a bs ms o (none_later a b bs t (IsDistinct-head equal b bs u)))
placed l a left o f (b ∷ bs) (m ∷ ms) (suc i) d e u n w t z =
    ap₂ (λ x xs. x ∷ xs) (unlike_matrix l (shared_head b) (shared_head a) m (sym o) (sym (eq-same a b (own_head l.columns (shared_head a) o)) ∙ z 0 (omega arith)))
    (placed l a left o f bs ms i d e (IsDistinct-tail equal b bs u) (omega (arith, n)) (omega (arith, w)) t (λ k j. z (suc k) (omega (arith, j))))

-- one matrix after the other
pub with_next : (l : Line) (bs : List Head) (ms : List (List Line)) (i : ℕ) (d : Head) (e : List Line) → length ms ≡ length bs → i < length bs
    → with_lines l (map shared_head (take (suc i) bs)) ms
    ≡ set (with_lines l (map shared_head (take i bs)) ms) i (get_or (with_lines l (map shared_head (take i bs)) ms) i e ++ cons_option (kept_line (shared_head (get_or bs i d)) l) [])
with_next l [] ms i d e n w = absurd (omega arith)
with_next l (b ∷ bs) [] i d e n w = absurd (omega arith)
with_next l (b ∷ bs) (m ∷ ms) zero d e n w = refl
with_next l (b ∷ bs) (m ∷ ms) (suc i) d e n w = ap (λ xs. (m ++ cons_option (kept_line (shared_head b) l) []) ∷ xs) (with_next l bs ms i d e (omega (arith, n)) (omega (arith, w)))

one_kept : (ls : List Line) (l : Line) (h : static.Head) → kept_lines ls h ++ cons_option (kept_line h l) [] ≡ kept_lines (ls ++ l ∷ []) h
one_kept ls l h = sym (filter_map-append (kept_line h) ls (l ∷ []))

-- what is kept of some rows, with one row more
pub kept_more : (ls : List Line) (l : Line) (hs : List static.Head) → with_lines l hs (map (kept_lines ls) hs) ≡ map (kept_lines (ls ++ l ∷ [])) hs
kept_more ls l [] = refl
kept_more ls l (h ∷ hs) = ap₂ (λ x xs. x ∷ xs) (one_kept ls l h) (kept_more ls l hs)

-- a matrix with one row more, at its place among the matrices
put_matrix : (ms : List (Vec Row Global)) (i : ℕ) (old new : Vec Row Global) (more : List Line) → i < length ms → old ≡ get_or ms i old → lines_of new.items ≡ lines_of old.items ++ more
    → matrices_of (set ms i new) ≡ set (matrices_of ms) i (get_or (matrices_of ms) i [] ++ more)
put_matrix ms i old new more w o n =
    map-set (λ v. lines_of v.items) ms i new
    ∙ ap (set (matrices_of ms) i) (n ∙ ap (λ v. lines_of v.items ++ more) o ∙ ap (λ m. m ++ more) (sym (get_or-map (λ v. lines_of v.items) ms i old [] w)))

-- the next of the matrices of some heads
pub put_next : (l : Line) (bs : List Head) (ms : List (Vec Row Global)) (fs : List (List Line)) (i : ℕ) (b : Head) (old new : Vec Row Global) → length ms ≡ length bs → length fs ≡ length bs → i < length bs
    → matrices_of ms ≡ with_lines l (map shared_head (take i bs)) fs → b ≡ get_or bs i b → old ≡ get_or ms i old → lines_of new.items ≡ lines_of old.items ++ cons_option (kept_line (shared_head b) l) []
    → matrices_of (set ms i new) ≡ with_lines l (map shared_head (take (i + 1) bs)) fs
put_next l bs ms fs i b old new m n w e g o p =
    put_matrix ms i old new (cons_option (kept_line (shared_head b) l) []) (omega (arith, m, w)) o p
    ∙ ap (λ xs. set xs i (get_or xs i [] ++ cons_option (kept_line (shared_head b) l) [])) e
    ∙ ap (λ c. set (with_lines l (map shared_head (take i bs)) fs) i (get_or (with_lines l (map shared_head (take i bs)) fs) i [] ++ cons_option (kept_line (shared_head c) l) [])) g
    ∙ sym (with_next l bs fs i b [] n w) ∙ ap (λ k. with_lines l (map shared_head (take k bs)) fs) (sym (add-one i))

-- the matrix of the head that is equal to the row's
pub put_own : (l : Line) (a : Head) (left : Option Line) → Some (shared_head a) ≡ head_of l.columns → LeftForOwn l left → (bs : List Head) (ms : List (Vec Row Global)) (i : ℕ) (old new : Vec Row Global)
    → IsDistinct equal bs → length ms ≡ length bs → position (equal a) bs ≡ Some i → old ≡ get_or ms i old → lines_of new.items ≡ lines_of old.items ++ cons_option left []
    → matrices_of (set ms i new) ≡ with_lines l (map shared_head bs) (matrices_of ms)
put_own l a left o f bs ms i old new u n q g p =
    let at = position-Some (equal a) bs i a q in
    let within = at.0 in
    put_matrix ms i old new (cons_option left []) (omega (arith, n, within)) g p
    ∙ sym (placed l a left o f bs (matrices_of ms) i a [] u (length-map ms (λ v. lines_of v.items) ∙ n) at.0 at.1 at.2)
