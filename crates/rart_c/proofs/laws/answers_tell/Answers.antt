use Rattle.rart_c.proofs.AnswerLawLemmas.{answers_tell, reads_tell, firsts_tell, first_strings_tell, page_answers_tell, pages_tell, refusals_tell, equality_tells}
use Rattle.rart_c.proofs.SaveLemmas.{lengths_tell, loads_give_back, loads_tell, saves_tell, unread_tells}
use Rattle.rart_c.proofs.laws.answers_tell.Goals as goal

pub returns-clause-values : goal.returns-clause-values
returns-clause-values g c = answers_tell _

pub returns-clause-strings : goal.returns-clause-strings
returns-clause-strings g c = reads_tell

pub returns-clause-firsts : goal.returns-clause-firsts
returns-clause-firsts g c = firsts_tell

pub returns-clause-first_strings : goal.returns-clause-first_strings
returns-clause-first_strings g c = first_strings_tell

pub returns-clause-pages : goal.returns-clause-pages
returns-clause-pages g c = pages_tell

pub returns-clause-page_answers : goal.returns-clause-page_answers
returns-clause-page_answers g c = page_answers_tell

pub returns-clause-refusals : goal.returns-clause-refusals
returns-clause-refusals g c = refusals_tell

pub returns-clause-equality : goal.returns-clause-equality
returns-clause-equality g c = equality_tells _

pub returns-clause-saved : goal.returns-clause-saved
returns-clause-saved g c = saves_tell

pub returns-clause-unread : goal.returns-clause-unread
returns-clause-unread g c = unread_tells

pub returns-clause-loads : goal.returns-clause-loads
returns-clause-loads g c = loads_tell

pub returns-clause-lengths : goal.returns-clause-lengths
returns-clause-lengths g c = lengths_tell

pub returns-clause-given_back : goal.returns-clause-given_back
returns-clause-given_back g c = loads_give_back _
