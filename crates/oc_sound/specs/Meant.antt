-- The types of evaluations that the types of a text stand for.
use Rattle.std.specs.Prelude.{ℕ, true, nat_eq, if◌then◌else◌}
use Rattle.oc_typing.specs.Ty.{Ty, Tys, Bound, Var, Stamped, Arrow, Product, NoTypes, MoreTypes}
use Rattle.run_types.specs.Types as run
use Rattle.run_types.specs.Types.{TInt, TChar, TString, TTup, TArr, TRef, TExn, TData, NilT, ConsT, bool_ty, list_ty, nth, unit_ty}

-- a declared type by its stamp; the types that OCaml predefines have theirs below first_stamp
abbrev pub stamp_ty : ℕ → run.Tys → run.Ty
stamp_ty s ts =
    if nat_eq s 0 then TInt
    else (if nat_eq s 2 then TChar
    else (if nat_eq s 3 then TString
    else (if nat_eq s 4 then bool_ty
    else (if nat_eq s 5 then TExn
    else (if nat_eq s 6 then list_ty (nth 0 ts)
    else (if nat_eq s 7 then TRef (nth 0 ts)
    else (if nat_eq s 10 then unit_ty
    else TData s true ts)))))))

abbrev mutual
  -- where each variable that stands for itself is f, and each that a scheme binds is b
  pub meant : (ℕ → run.Ty) → (ℕ → run.Ty) → Ty → run.Ty
  meant f b (Bound i) = b i
  meant f b (Var i) = f i
  meant f b (Stamped s ts) = stamp_ty s (all_meant f b ts)
  meant f b (Arrow t u) = TArr (meant f b t) (meant f b u)
  meant f b (Product ts) = TTup (all_meant f b ts)

  pub all_meant : (ℕ → run.Ty) → (ℕ → run.Ty) → Tys → run.Tys
  all_meant f b NoTypes = NilT
  all_meant f b (MoreTypes t ts) = ConsT (meant f b t) (all_meant f b ts)
