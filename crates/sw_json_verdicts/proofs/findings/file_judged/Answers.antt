use Rattle.sw_json_verdicts.proofs.findings.file_judged.Goals as goal

pub returns-in-Ok : goal.returns-in-Ok
returns-in-Ok g c = rw (c.in-Network.is, c.in-Some.is, c.in-Ok.is) (rw c.deref.ensures.value at c.verdict_judged.ensures)

pub returns-in-Faulty : goal.returns-in-Faulty
returns-in-Faulty g c = rw c.in-Faulty.is (rw c.deref-in-Faulty.ensures.value at c.fault_judged.ensures)

pub returns-in-TooLong : goal.returns-in-TooLong
returns-in-TooLong g c = rw c.in-TooLong.is c.long_judged.ensures

pub returns-in-Unread : goal.returns-in-Unread
returns-in-Unread g c = rw c.in-Unread.is c.unread_judged.ensures
