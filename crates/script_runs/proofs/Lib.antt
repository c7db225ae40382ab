mod ScriptLemmas
mod Leading
mod RunLemmas
