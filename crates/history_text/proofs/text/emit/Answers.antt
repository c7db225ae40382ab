use Rattle.std.proofs.Common.{[], ap}
use Rattle.std.proofs.lemmas.List.{append-nil}
use Rattle.history_text.specs.HistoryText.{text_of}
use Rattle.history_text.specs.Sending.{Waiting}
use Rattle.history_text.proofs.SendingLaws.{Sent-then, Sent-as, Sent-all, Stopped-part, Stopped-then, Stopped-as, IfErr-on, Sent-calls, later_rose}
use Rattle.history_text.proofs.LineLaws.{some_text}
use Rattle.history_text.proofs.text.emit.Goals as goal

pub returns-clause-whole : goal.returns-clause-whole
returns-clause-whole g c =
    Sent-all _ _ _ _ _ _ _ (ap (λ (w : Waiting). w.bytes) c.new-pending.ensures) c.in_ok-flush.ensures.empty
    (Sent-as _ _ _ _ _ _ _ _ (append-nil (text_of c.args.h.now)) (Sent-then _ _ _ _ _ _ _ _ (text_of c.args.h.now) [] c.in_ok-put_history.ensures.sends c.in_ok-flush.ensures.sends))

pub returns-in_err-flush-clause-part : goal.returns-in_err-flush-clause-part
returns-in_err-flush-clause-part g c =
    let text = text_of c.args.h.now in
    let stopped = Stopped-then _ _ _ _ _ _ _ text [] _ c.in_ok-put_history.ensures.sends c.in_err-flush.ensures.sends in
    IfErr-on _ c.in_err-flush.field-0.0 _ c.from_residual-in_err-flush.ensures.1
    (Stopped-part _ _ _ _ _ text _ (ap (λ (w : Waiting). w.bytes) c.new-pending.ensures) (ap (λ (w : Waiting). w.taken) c.new-pending.ensures)
    (Stopped-as _ _ _ _ _ _ _ _ (append-nil text) stopped))

pub returns-in_err-put_history-clause-writing_calls : goal.returns-in_err-put_history-clause-writing_calls
returns-in_err-put_history-clause-writing_calls g c = c.in_err-put_history.ensures.sends.calls

pub returns-in_err-flush-clause-writing_calls : goal.returns-in_err-flush-clause-writing_calls
returns-in_err-flush-clause-writing_calls g c = later_rose g.D.Desk.tells (g.D.Desk.shows c.args.desk.now) (g.D.Desk.shows c.put_history.new.desk) (g.D.Desk.shows c.flush.new.desk) c.in_ok-put_history.ensures.sends.writing_calls c.in_err-flush.ensures.sends.calls

pub returns-clause-writing_calls : goal.returns-clause-writing_calls
returns-clause-writing_calls g c =
    Sent-calls _ _ _ _ _ _ _ (ap (λ (w : Waiting). w.bytes) c.new-pending.ensures) c.in_ok-flush.ensures.empty (some_text c.args.h.now)
    (Sent-as _ _ _ _ _ _ _ _ (append-nil (text_of c.args.h.now)) (Sent-then _ _ _ _ _ _ _ _ (text_of c.args.h.now) [] c.in_ok-put_history.ensures.sends c.in_ok-flush.ensures.sends))
