use Rattle.std.proofs.Common.{codes, inl, inr}
use Rattle.calc_words.proofs.Asked.{no_help, no_short_help, no_short_version, no_version, none_said, said_alone}
use Rattle.calc_words.proofs.help.answer.Goals as goal

pub returns-in-text-2-clause-refused : goal.returns-in-text-2-clause-refused
returns-in-text-2-clause-refused c =
    λ some. none_said c.args.words.now c.word-item.result c.as_str.result.now (codes "--version") (codes "-V") c.in-len1.len_at_least c.in-len1.len_below c.word-item.is c.as_str.ensures c.in-text-2.is no_version no_short_version

pub returns-in-text-clause-refused : goal.returns-in-text-clause-refused
returns-in-text-clause-refused c =
    λ some. none_said c.args.words.now c.word-item.result c.as_str.result.now (codes "--help") (codes "-h") c.in-len1.len_at_least c.in-len1.len_below c.word-item.is c.as_str.ensures c.in-text.is no_help no_short_help

pub returns-in-text-2-clause-only : goal.returns-in-text-2-clause-only
returns-in-text-2-clause-only c =
    λ some. inr (said_alone c.args.words.now c.word-item.result c.as_str.result.now (codes "--version") (codes "-V") c.in-len1.len_at_least c.in-len1.len_below c.word-item.is c.as_str.ensures c.in-text-2.is)

pub returns-in-text-clause-only : goal.returns-in-text-clause-only
returns-in-text-clause-only c =
    λ some. inl (said_alone c.args.words.now c.word-item.result c.as_str.result.now (codes "--help") (codes "-h") c.in-len1.len_at_least c.in-len1.len_below c.word-item.is c.as_str.ensures c.in-text.is)
