use Rattle.std.proofs.Common.{length}
use Rattle.std.proofs.lemmas.List.{append_assoc}
use Rattle.control.specs.Problems.{setup}
use Rattle.checking.specs.Traces.{string_of}
use Rattle.frames.specs.Replies.{written}
use Rattle.replies.specs.Lines.{bytes_of, clash, string, strings_to, text_of}
use Rattle.replies.proofs.Appending.{onward, retold}
use Rattle.replies.proofs.strings.put_clash.Goals as goal

pub returns : goal.returns
returns c =
    let p = setup c.args.problem.now in
    let run = c.args.run.now in
    let first = written (bytes_of (clash c.args.event (length run))) in
    let second = written (bytes_of (string 0 (string_of p 0 run))) in
    let rest = text_of (strings_to p c.args.event run p.sites) in
    retold (append_assoc first second rest) (onward _ _ (onward _ _ c.put-count.ensures c.put_string-count.ensures.line) c.put_controllers-count.ensures)
