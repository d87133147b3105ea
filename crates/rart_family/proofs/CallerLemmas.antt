-- The lemmas that callers' proofs cite: what commands reply, and what a run replies.
pub use Rattle.rart_family.proofs.LawLemmas.{no_want, one_each, own_replies}
pub use Rattle.rart_family.proofs.OutOfMemoryLemmas.{no_want_before_lack, no_want_without_memory}
pub use Rattle.rart_family.proofs.ReadLemmas.{reads_leave_family}
pub use Rattle.rart_family.proofs.RunLemmas.{Answers, command_answers, is_refusal}
