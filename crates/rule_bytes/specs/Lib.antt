pub mod RuleBytes
