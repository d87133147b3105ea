-- The words of a proof by hand, and the laws of a reference.
pub use Rattle.std.proofs.Common.{◌≡◌, ◌+◌, ◌<◌, ◌^◌, Some, List, [], ◌∷◌, refl, sym, ap, subst, ◌∙◌}
pub use Rattle.std.proofs.raw_atomic.Walks.{proved, proved_at}
pub use base.Fml.{GName, ftrue, flft}
pub use base.Logic.{id⊢, ent, sep, emp, via, fst∗, snd∗}
pub use contract.BorrowLft.{◌⊑◌}
pub use contract.Monad.{fact, fact_use, fact_i}
pub use contract.Running.{tables}
pub use mir.MapTy.{inst_fn}
pub use mir.Syntax.{Args, named, a_type, dcons, dnil}
pub use types.Kit.{‵, raw, ◌⊛◌, some, later, ◌$◌, ◌∵◌, !, qed, done, move, drop, use0, use1, split, split3, join, fjoin, suffices, pick, await, rewrite, frame}
pub use types.Run.{enter, addr, stop, no_more, and_then, returns, of_opd}
pub use types.ByLocal.{alloc_all, pass_all, free_all, look_at, get, through, sets, lands_as}
pub use denote.Builtin.{RefOf}
pub use denote.Exit.{yes, no}
pub use denote.Follow.{follows_if}
pub use denote.Laws.{Is, shows}
pub use denote.Param.{param, layout, bounded}
pub use denote.Param.Laws.{Laws, param_laws}
pub use denote.RattleType.{RattleType}
pub use denote.Ref.{mut_vals, mut_Tells, shr_vals, shr_Tells}
pub use denote.Signature.{plain, mut_ref_to, named_lft, type_at}
pub use denote.Steps.{nothing, heard, peeks}
pub use denote.Triple.Call.{calls_at}
pub use denote.Triple.Clauses.{lasts, Lasts}
pub use denote.Triple.Entry.{on_entry}
pub use denote.Triple.Spec.{triple_of}
pub use denote.Triple.Table.{framed}
pub use denote.Triple.Walked.{Stays, stay_dropped, Goes-dropped, Goes-spent_ref, gave_ref, Goes-gave_ref, ends_at, walk_of}
use denote.Param.Laws.{of_field, is_one, row_shared}
use denote.Param.Shared.{mut_ref_shared}
use denote.Ref.{NamedLft, MutRef}
use denote.Struct.Field.{mut_ref_field}
use denote.Struct.Laws.{mut_ref_laws}

-- the laws of a reference for writing, from those of what it leads to
pub reference-laws : (at : NamedLft) (T : RattleType) → Laws T → Laws (MutRef at.mir at.lft T)
reference-laws at T laws = let one = is_one T laws in
    of_field (mut_ref_field at T one) (mut_ref_laws at T one) refl
    (mut_ref_shared at T one (row_shared T laws))
