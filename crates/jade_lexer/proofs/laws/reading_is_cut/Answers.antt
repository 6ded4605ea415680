use Rattle.jade_lexer.specs.Reading.{first_spot}
use Rattle.jade_lexer.proofs.Cuts.{cut_whole, whole_cut, stop_refused, refused_stop}
use Rattle.jade_lexer.proofs.Standing.{spans_of}
use Rattle.jade_lexer.proofs.laws.reading_is_cut.Goals as goal

pub returns-clause-cut : goal.returns-clause-cut
returns-clause-cut c = λ text tokens same. whole_cut first_spot text tokens same

pub returns-clause-whole : goal.returns-clause-whole
returns-clause-whole c = λ text tokens cut. cut_whole tokens.end first_spot text tokens.lexemes cut

pub returns-clause-spans : goal.returns-clause-spans
returns-clause-spans c = spans_of

pub returns-clause-stops : goal.returns-clause-stops
returns-clause-stops c = λ text error same. refused_stop first_spot text error same

pub returns-clause-refused : goal.returns-clause-refused
returns-clause-refused c = λ text error stops. stop_refused error first_spot text stops
