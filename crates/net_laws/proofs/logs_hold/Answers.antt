use Rattle.net_laws.specs.Laws.{LogsHold, BackupServes, ForwarderLogs, LoggedOnce, LogsAreCommitted, CleanedIsSeen}
use Rattle.net_laws.proofs.Laws.{always, logs_hold, backup_serves, forwarder_logs, logged_once, logs_are_committed}
use Rattle.net_laws.proofs.Laws.{cleaned_is_seen}
use Rattle.net_laws.proofs.logs_hold.Goals as goal

pub returns : goal.returns
returns c = record {
  provider = always LogsHold logs_hold;
  backup = always BackupServes backup_serves;
  forwarder = always ForwarderLogs forwarder_logs;
  once = always LoggedOnce logged_once;
  committed = always LogsAreCommitted logs_are_committed;
  cleaned = always CleanedIsSeen cleaned_is_seen;
}
