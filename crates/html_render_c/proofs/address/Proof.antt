-- `address` meets its contract: the address goes to the result, and the slice is left as it is.
use Rattle.std.proofs.Common.{[], ◌∷◌, refl}
use Rattle.std.proofs.raw_atomic.Walks.{proved}
use base.Fml.{ftrue, flft}
use mir.Syntax.{named}
use mir.Val.{vptr}
use types.Kit.{‵, ◌⊛◌, ◌$◌, ◌∵◌, !, qed, done, move, keep, split, join, feq_i, suffices, frame}
use types.Part.{whole, sub}
use types.Run.{enter, addr, from, fld, hop, stop, returns}
use types.ByLocal.{alloc_all, pass_all, free_all, look_at, look_in_at, sets}
use denote.Builtin.{u8}
use denote.RawPtr.{block_ptr}
use denote.Signature.{plain}
use denote.Slice.{MutSlice, mut_slice_vals, mut_slice_Tells}
use denote.Steps.{nothing}
use denote.Triple.Walked.{Stays, says, stay_slice, Goes-slice, ends_at}
use Rattle.html_render_c.specs.contracts.address as f
use Rattle.html_render_c.proofs.address.Statement.{statement}
use Rattle.html_render_c.proofs.address.Code as code

-- at the return the function still has the slice
abbrev stayed : Stays f.ended.signature.params f.ended.kept
stayed = (stay_slice (0 ∷ []) tt (plain (λ _. u8)), tt)

pub address_spec : {M : Type 1} → statement M
address_spec 𝓤 𝓛 𝓜 𝓡 wired =
    let c = f.clauses 𝓛 𝓜.mem 𝓡.returns in
    proved 𝓛 f.ended stayed c 𝓜 𝓡 (Goes-slice 𝓛 1 0 tt (plain (λ _. u8)), tt)
    f.Key.name code.function (code.unfolded 𝓤 𝓛.H 𝓜 𝓡 wired)
    (λ κs. (mut_slice_vals, tt)) (λ κs. (mut_slice_Tells (named 0) κs.0 u8, tt)) (λ κs qs bounds a _ are.
    let κ = κs.0 in let q = qs.0 in let slice = a.0 in let b = slice.ref_ptr.0 in let o = slice.ref_ptr.1 in let vs = mut_slice_vals slice in
    qed 𝓛 (((‵ (flft κ q) ⊛ ‵ ftrue) ⊛ ‵ ((MutSlice (named 0) κ u8).own_val slice vs) ⊛ ‵ ftrue) ∷ ‵ ftrue ∷ []) ∵
    split ! $ split ! $ move ! (2 ∷ []) $ split ! $ keep ! (0 ∷ 2 ∷ []) $
    enter ! _ _ _ _ _ $ alloc_all ! (λ l. pass_all ! refl ((tt, (tt, (record { fits = are.0.0.1.0 }, tt))), tt) $
    -- [the slice; the token of its lifetime; the locals]
    sets ! (addr ! (from ! (fld ! refl (hop ! (look_in_at ! 1 (sub ! 0 refl (whole !))) (stop !))))) refl (tt, tt) $
    returns ! (look_at ! 0 refl) $ free_all ! refl $
    suffices ! _ (ends_at 𝓛 f.ended stayed c ((κs, qs, bounds, a, (vs, tt)), tt) (vptr b o) (block_ptr b o) (slice.now, tt) (refl, tt)) $ says ! (refl, refl) $
    nothing ! $ move ! (1 ∷ 0 ∷ []) $ join ! $ nothing ! $ move ! (2 ∷ 0 ∷ []) $ join ! $ frame ! $ frame ! $
    feq_i ! _ (vptr b o ∷ []) _ refl $ done !))
