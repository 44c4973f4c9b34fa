-- Exceptions that are known have other names than the constructors of the list.
use Rattle.std.proofs.Common.{◌≡◌, List, [], ◌∷◌, Option, Some, None, Bool, true, false, if◌then◌else◌, refl, ap, subst}
use Rattle.std.specs.Str.{bytes_eq}
use Rattle.std.proofs.lemmas.Slice.Eq.{bytes_eq-Decides}
use Rattle.oc_ast.specs.Plain.{Bytes, Cons, Long, PTDef, Alias, Variant, PItem, Let, LetRec, Types, Exn, ExnAs, Module, Sealed, Functor, PItems, NoItems, MoreItems, PMExp, MAt, Struct, Apply, MSeal}
use Rattle.oc_steps.specs.Known.{Known, Nobody, Builds, Raises, Holds, held_of, in_held, is_raised, item_knows, items_know, led, mod_knows, or_nobody, over, raised_of, with_cons, with_defs}
use Rattle.runs.specs.Names.{last_part}
use Rattle.oc_sound.specs.Secure.{SecureItem, SecureItems, SecureMod}
use Rattle.oc_sound.specs.Words.{Listed, Variants}
use Rattle.oc_sound.specs.Served.{Apart}

pub apart_over : (vs : Variants) (i k : Known) → Apart vs i → Apart vs k → Apart vs (over i k)
apart_over vs Nobody k h m = m
apart_over vs (Builds x i) k h m = apart_over vs i k h m
apart_over vs (Raises x i) k h m = (h.0, apart_over vs i k h.1 m)
apart_over vs (Holds x j i) k h m = (h.0, apart_over vs i k h.1 m)

held_if : (vs : Variants) (b : Bool) (j : Known) (o : Option Known) (i : Known) → Apart vs j → (o ≡ Some i → Apart vs i) → (if b then Some j else o) ≡ Some i → Apart vs i
held_if vs true j o i h f e = subst (Apart vs) (pick e) h
  where
    or_same : Option Known → Known
    or_same None = j
    or_same (Some l) = l

    pick : Some j ≡ Some i → j ≡ i
    pick q = ap or_same q
held_if vs false j o i h f e = f e

held_apart : (vs : Variants) (x : Bytes) (k i : Known) → Apart vs k → held_of x k ≡ Some i → Apart vs i
held_apart vs x Nobody i h e = absurd (cc e)
held_apart vs x (Builds y k) i h e = held_apart vs x k i h e
held_apart vs x (Raises y k) i h e = held_apart vs x k i h.1 e
held_apart vs x (Holds y j k) i h e = held_if vs (bytes_eq x y) j (held_of x k) i h.0 (held_apart vs x k i h.1) e

led_apart : (vs : Variants) (q : Long) (k i : Known) → Apart vs k → led held_of q k ≡ Some i → Apart vs i
led_apart vs [] k i h e = absurd (cc e)
led_apart vs (x ∷ []) k i h e = held_apart vs x k i h e
led_apart vs (m ∷ x ∷ q) k i h e = by (held_of m k) refl e (λ j. led_apart vs (x ∷ q) j i)
  where
    by : (o : Option Known) → held_of m k ≡ o → in_held (λ b. led held_of (x ∷ q) b) o ≡ Some i → ((j : Known) → Apart vs j → led held_of (x ∷ q) j ≡ Some i → Apart vs i) → Apart vs i
    by None p r f = absurd (cc r)
    by (Some j) p r f = f j (held_apart vs m k j h p) r

mod_led : (vs : Variants) (q : Long) (k : Known) → Apart vs k → Apart vs (or_nobody (led held_of q k))
mod_led vs q k h = by (led held_of q k) refl
  where
    by : (o : Option Known) → led held_of q k ≡ o → Apart vs (or_nobody o)
    by None e = tt
    by (Some i) e = led_apart vs q k i h e

apart_cons : (vs : Variants) (cs : Cons) (k : Known) → Apart vs k → Apart vs (with_cons cs k)
apart_cons vs [] k h = h
apart_cons vs (c ∷ cs) k h = apart_cons vs cs (Builds c.0 k) h

apart_defs : (vs : Variants) (ds : List PTDef) (k : Known) → Apart vs k → Apart vs (with_defs ds k)
apart_defs vs [] k h = h
apart_defs vs (Alias ws n w ∷ ds) k h = apart_defs vs ds k h
apart_defs vs (Variant ws n w cs ∷ ds) k h = apart_defs vs ds (with_cons cs k) (apart_cons vs cs k h)

mutual
  pub item_apart : (vs : Variants) (b : Bool) (k : Known) (i : PItem) → SecureItem vs b i → Apart vs k → Apart vs (item_knows k i)
  item_apart vs b k (Let p e) s h = tt
  item_apart vs b k (LetRec rs) s h = tt
  item_apart vs b k (Types ds) s h = apart_defs vs ds Nobody tt
  item_apart vs b k (Exn n w) s h = (s.1, tt)
  item_apart vs b k (ExnAs n q) s h = (s.1, tt)
  item_apart vs b k (Module m o) s h = (mod_apart vs b k o s h, tt)
  item_apart vs b k (Sealed m n o) s h = tt
  item_apart vs b k (Functor f x n o) s h = tt

  pub items_apart : (vs : Variants) (b : Bool) (k : Known) (is : PItems) → SecureItems vs b is → Apart vs k → Apart vs (items_know k is)
  items_apart vs b k NoItems s h = tt
  items_apart vs b k (MoreItems i is) s h =
      let a = item_apart vs b k i s.0 h in apart_over vs (items_know (over (item_knows k i) k) is) (item_knows k i) (items_apart vs b (over (item_knows k i) k) is s.1 (apart_over vs (item_knows k i) k a h)) a

  mod_apart : (vs : Variants) (b : Bool) (k : Known) (o : PMExp) → SecureMod vs b o → Apart vs k → Apart vs (mod_knows k o)
  mod_apart vs b k (MAt q) s h = mod_led vs q k h
  mod_apart vs b k (Struct is) s h = items_apart vs b k is s h
  mod_apart vs b k (Apply f a) s h = tt
  mod_apart vs b k (MSeal o n) s h = tt

-- ---- an exception is not listed

raised_if : (vs : Variants) (x y : Bytes) (b c : Bool) (o : Option Bool) → bytes_eq x y ≡ b → (c ≡ true → Listed y vs → ⊥) → (is_raised o ≡ true → Listed x vs → ⊥) → is_raised (if b then Some c else o) ≡ true → Listed x vs → ⊥
raised_if vs x y true c o e f g h l = f h (subst (λ z. Listed z vs) ((bytes_eq-Decides x y).0 e) l)
raised_if vs x y false c o e f g h l = g h l

raised_apart : (vs : Variants) (x : Bytes) (k : Known) → Apart vs k → is_raised (raised_of x k) ≡ true → Listed x vs → ⊥
raised_apart vs x Nobody h e l = absurd (cc e)
raised_apart vs x (Builds y k) h e l = raised_if vs x y (bytes_eq x y) false (raised_of x k) refl (λ q m. absurd (cc q)) (raised_apart vs x k h) e l
raised_apart vs x (Raises y k) h e l = raised_if vs x y (bytes_eq x y) true (raised_of x k) refl (λ q. h.0) (raised_apart vs x k h.1) e l
raised_apart vs x (Holds y i k) h e l = raised_apart vs x k h.1 e l

pub exn_unlisted : (vs : Variants) (q : Long) (k : Known) → Apart vs k → is_raised (led raised_of q k) ≡ true → Listed (last_part q) vs → ⊥
exn_unlisted vs [] k h e l = absurd (cc e)
exn_unlisted vs (x ∷ []) k h e l = raised_apart vs x k h e l
exn_unlisted vs (m ∷ x ∷ q) k h e l = by (held_of m k) refl e (λ j a r. exn_unlisted vs (x ∷ q) j a r l)
  where
    by : (o : Option Known) → held_of m k ≡ o → is_raised (in_held (λ b. led raised_of (x ∷ q) b) o) ≡ true → ((j : Known) → Apart vs j → is_raised (led raised_of (x ∷ q) j) ≡ true → ⊥) → ⊥
    by None p r f = absurd (cc r)
    by (Some j) p r f = f j (held_apart vs m k j h p) r
