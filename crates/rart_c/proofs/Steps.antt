-- The names that the walks cite.
pub use Rattle.std.proofs.Common.{◌≡◌, ℕ, List, [], ◌∷◌, ◌++◌, refl, sym, ap, ◌∙◌, subst, lit<}
pub use Rattle.core.proofs.alloc.Calls.{handle_tells, Goes-blank}
pub use Rattle.core.proofs.alloc.Shapes.{after}
pub use Rattle.core.proofs.atomic.Steps.{fm}
pub use Rattle.core.proofs.cell.Inside.{Good}
pub use Rattle.core.proofs.option.Made.{Some-of, none_of}
pub use Rattle.core.specs.declared.option.Option.TheVariants.{None, Some}
pub use Rattle.std.proofs.raw_atomic.Walks.{proved_at, leaves}
pub use Rattle.std.specs.contracts.impls.GlobalAllocator.TheImpl.{ghosts}
pub use Rattle.std_alloc.proofs.BoxSteps.Steps.{box_out, box_in}
pub use Rattle.std_alloc.proofs.ResultValues.{and_tt}
pub use Rattle.std_alloc.specs.Box.Ownership.{box_owns}
pub use base.Fml.{ftrue, fsep, flft}
pub use base.Logic.{SProp, ent, emp, never, id⊢, fst∗}
pub use contract.BorrowLft.{◌⊑◌}
pub use contract.Monad.{fact, fact_i}
pub use contract.Running.{tables}
pub use denote.Builtin.{RawPtr}
pub use denote.Exit.{no, yes}
pub use denote.Param.{param, layout, bounded}
pub use denote.Param.Laws.{param_laws}
pub use denote.RattleType.{RattleType, owns}
pub use denote.RawPtr.{Ptr, block_ptr, null_ptr, ptr_val, in_a_block, tests_null, Testable}
pub use denote.Signature.{types_at, type_at, plain}
pub use denote.Steps.{nothing, only, heard}
pub use denote.Struct.Tuple.{Tuple}
pub use denote.Triple.Call.{calls_at, calls_at_last}
pub use denote.Triple.Clauses.{Lasts, lasts}
pub use denote.Triple.Spec.{triple_of}
pub use denote.Triple.Walked.{Stays, stay_dropped, walk_of, Goes-dropped}
pub use mir.MapTy.{inst_fn}
pub use mir.Raw.{raw as bare}
pub use mir.Syntax.{a_type, dcons, dnil}
pub use mir.Val.{Val, vptr, vstruct, vcons, vnil, of_list}
pub use prog.Wp.{WpFn}
pub use types.ByLocal.{alloc_all, pass_all, free_all, look_at, get, get_in, sets, sets_last, lands_as, lands_last, env}
pub use types.Kit.{‵, raw, ◌⊛◌, some, later, prop, at_ret, ◌$◌, ◌∵◌, !, qed, by, move, keep, drop, split, split3, join, fsplit, fjoin, fpick, fpack, pick, regoal, use0, use1, await, rewrite, feq_i, feq_l}
pub use types.Logic.{sem}
pub use types.Match.{live}
pub use types.Part.{agg, sub, whole}
pub use types.Run.{stop, fld, lit, of_opd, bin, no_more, and_then, first, blocks, branches, exec, returns, enter}
